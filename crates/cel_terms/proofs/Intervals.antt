-- The interval of each valuation of a formula is one of the substream, and so are the positions that it binds. For callers of the crate too.
use Rattle.std.proofs.Common.{refl, sym, subst, ℕ, ◌<◌, ◌≤◌, List, [], ◌∷◌, ◌++◌, arith}
use Rattle.std.proofs.lemmas.Option.{slice_get_within}
use Rattle.cel_terms.specs.declared.Formula.{Formula}
use Rattle.cel_terms.specs.Meaning.{Stream, Valuation, Single, with_name, only_names, meaning}
use Rattle.cel_terms.specs.MeaningLaws.{IsSpan, IsWithin}
use Rattle.cel_terms.proofs.Induction.{renamed, IsKept, Always, always, every}

-- each position of the valuation is one of the substream, from the start to the end
abbrev pub AllWithin : (ℕ → Type 0) → ℕ → ℕ → Valuation → Type 0
AllWithin Has start end [] = Unit {0}
AllWithin Has start end (b ∷ v) = IsWithin Has start end b.position × AllWithin Has start end v

pub record Lies (stream : Stream) (start end : ℕ) (v : Valuation) : Type 0 where
  pub span : IsSpan stream start end
  pub within : AllWithin stream.Has start end v

wider : (Has : ℕ → Type 0) (s e s' e' : ℕ) (v : Valuation) → s' ≤ s → e ≤ e' → AllWithin Has s e v → AllWithin Has s' e' v
wider Has s e s' e' [] p q h = tt
wider Has s e s' e' (b ∷ v) p q h =
    let from = h.0.from in
    let to = h.0.to in
    (record { has = h.0.has; from = omega arith; to = omega arith }, wider Has s e s' e' v p q h.1)

both : (Has : ℕ → Type 0) (s e : ℕ) (v w : Valuation) → AllWithin Has s e v → AllWithin Has s e w → AllWithin Has s e (v ++ w)
both Has s e [] w p q = q
both Has s e (b ∷ v) w p q = (p.0, both Has s e v w p.1 q)

pub same_positions : (Has : ℕ → Type 0) (g : List (List ℕ) → List (List ℕ)) (s e : ℕ) (v : Valuation) → AllWithin Has s e v → AllWithin Has s e (renamed g v)
same_positions Has g s e [] h = tt
same_positions Has g s e (b ∷ v) h = (h.0, same_positions Has g s e v h.1)

lies_renamed : (stream : Stream) (g : List (List ℕ) → List (List ℕ)) (s e : ℕ) (v : Valuation) → Lies stream s e v → Lies stream s e (renamed g v)
lies_renamed stream g s e v h = record { span = h.span; within = same_positions stream.Has g s e v h.within }

lies_single : (stream : Stream) (name : List ℕ) (s : ℕ) (v : Valuation) → Single stream name s s v → Lies stream s s v
lies_single stream name s v h = record {
  span = record { begins = h.typed.within; ends = h.typed.within; ordered = omega arith; there = slice_get_within stream.events s h.typed.event h.typed.at };
  within = subst (AllWithin stream.Has s s) (sym h.bound) (record { has = h.typed.within; from = omega arith; to = omega arith }, tt);
}

lies_joined : (stream : Stream) (s m n e : ℕ) (v w : Valuation) → Lies stream s m v → m < n → Lies stream n e w → Lies stream s e (v ++ w)
lies_joined stream s m n e v w p less q =
    let before = p.span.ordered in
    let after = q.span.ordered in
    let wide : m ≤ e = omega arith in
    let deep : s ≤ n = omega arith in
    let first : s ≤ s = omega arith in
    let last : e ≤ e = omega arith in
    record {
      span = record { begins = p.span.begins; ends = q.span.ends; ordered = omega arith; there = q.span.there };
      within = both stream.Has s e v w (wider stream.Has s m s e v first wide p.within) (wider stream.Has n e s e w deep last q.within);
    }

pub lies_kept : (stream : Stream) → IsKept stream Always (Lies stream)
lies_kept stream = record {
  single = λ name s e v h. subst (λ (to : ℕ). Lies stream s to v) (sym h.ends) (lies_single stream name s v record { typed = h.typed; ends = refl; bound = h.bound });
  joined = lies_joined stream;
  named = λ name c s e v h. lies_renamed stream (with_name name.text) s e v h;
  keeps = λ names c s e v h. lies_renamed stream (only_names names) s e v h;
}

-- Every valuation of a formula lies within the substream.
pub lies : (stream : Stream) (f : Formula) (s e : ℕ) (v : Valuation) → meaning stream f s e v → Lies stream s e v
lies stream f = every stream Always (Lies stream) (lies_kept stream) f (always f)
