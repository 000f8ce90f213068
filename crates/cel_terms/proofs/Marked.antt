-- The marks of an answer: where they lie, and that without SELECT and KEEP the ends are among them. For callers of the crate too.
use Rattle.std.proofs.Common.{◌≡◌, refl, sym, subst, ℕ, zero, suc, ◌⊎◌, inl, inr, true, List, [], ◌∷◌, ◌++◌, Option, Some, None, arith}
use Rattle.std.specs.Prelude.{Any, Contains}
use Rattle.stream_schema.specs.Types.{Declared}
use Rattle.stream_schema.specs.declared.Event.{Event}
use Rattle.cel_terms.specs.declared.Name.{Name}
use Rattle.cel_terms.specs.declared.Query.{Query}
use Rattle.cel_terms.specs.declared.Postfix.{Postfix}
use Rattle.cel_terms.specs.declared.Postfix.TheVariants.{Plus, NextPlus, Named, Keep}
use Rattle.cel_terms.specs.declared.Formula.{Formula, Of, Chain', Linked', Either', Post', Under', Row_of-Formula, end_of-Formula, more_of-Formula, Row_of-Link, end_of-Link, more_of-Link}
use Rattle.cel_terms.specs.Meaning.{Stream, Bound, Valuation, with_name, only_names, meaning}
use Rattle.cel_terms.specs.Answers.{Answer, IsAnswer, IsOfSubstream, IsBoundAt, is_bound, selected, substream}
use Rattle.cel_terms.specs.MeaningLaws.{IsWithin, HaveNoKeep, HasNoKeep, AllHaveNoKeep, LinksHaveNoKeep}
use Rattle.cel_terms.proofs.Induction.{renamed, IsKept, AllCount, PostfixesCount, PartsCount, LinksCount, every}
use Rattle.cel_terms.proofs.Intervals.{AllWithin, Lies, lies, same_positions}

-- the position is in the set of some name
abbrev pub IsHere : ℕ → Bound → Type 0
IsHere p b = (b.position ≡ p) × (is_bound b.names ≡ true)

abbrev pub Binds : ℕ → Valuation → Type 0
Binds p [] = ⊥
Binds p (b ∷ v) = IsHere p b ⊎ Binds p v

later_any : {X : Type 0} (P : X → Type 0) (x : X) (xs : List X) → Any P xs → Any P (x ∷ xs)
later_any P x xs (k, y, within, at, is) = (suc k, y, omega arith, at, is)

pub any_from_binds : (p : ℕ) (v : Valuation) → Binds p v → IsBoundAt v p
any_from_binds p [] h = absurd h
any_from_binds p (b ∷ v) (inl h) = (0, b, omega arith, refl, h)
any_from_binds p (b ∷ v) (inr h) = later_any (IsHere p) b v (any_from_binds p v h)

pub binds_from_any : (p : ℕ) (v : Valuation) → IsBoundAt v p → Binds p v
binds_from_any p [] (k, b, within, at, is) = absurd (omega arith)
binds_from_any p (c ∷ v) (zero, b, within, at, is) = inl (subst (IsHere p) (sym at) is)
binds_from_any p (c ∷ v) (suc k, b, within, at, is) = inr (binds_from_any p v (k, b, omega arith, at, is))

binds_left : (p : ℕ) (v w : Valuation) → Binds p v → Binds p (v ++ w)
binds_left p [] w h = absurd h
binds_left p (b ∷ v) w (inl h) = inl h
binds_left p (b ∷ v) w (inr h) = inr (binds_left p v w h)

binds_right : (p : ℕ) (v w : Valuation) → Binds p w → Binds p (v ++ w)
binds_right p [] w h = h
binds_right p (b ∷ v) w h = inr (binds_right p v w h)

still_named : (name : List ℕ) (names : List (List ℕ)) → is_bound names ≡ true → is_bound (with_name name names) ≡ true
still_named name [] h = h
still_named name (n ∷ ns) h = refl

binds_named : (p : ℕ) (name : List ℕ) (v : Valuation) → Binds p v → Binds p (renamed (with_name name) v)
binds_named p name [] h = absurd h
binds_named p name (b ∷ v) (inl h) = inl (h.0, still_named name b.names h.1)
binds_named p name (b ∷ v) (inr h) = inr (binds_named p name v h)

-- both ends of the interval are bound
abbrev EndsBound : ℕ → ℕ → Valuation → Type 0
EndsBound s e v = Binds s v × Binds e v

-- a postfix other than KEEP
abbrev IsNoKeep : Postfix → Type 0
IsNoKeep (Keep names) = ⊥
IsNoKeep p = Unit {0}

all_no_keep : (ps : List Postfix) → HaveNoKeep ps → AllCount IsNoKeep ps
all_no_keep [] h = tt
all_no_keep (Plus ∷ ps) h = (tt, all_no_keep ps h)
all_no_keep (NextPlus ∷ ps) h = (tt, all_no_keep ps h)
all_no_keep (Named name ∷ ps) h = (tt, all_no_keep ps h)
all_no_keep (Keep names ∷ ps) h = absurd h

mutual
  no_keep : (f : Formula) → HasNoKeep f → PostfixesCount IsNoKeep f
  no_keep (Of name) h = tt
  no_keep (Chain' s parts) h = parts_no_keep parts h
  no_keep (Linked' p first s links) h = (no_keep first h.0, links_no_keep links h.1)
  no_keep (Either' s choices) h = parts_no_keep choices h
  no_keep (Post' p base postfixes) h = (no_keep base h.0, all_no_keep postfixes.items h.1)
  no_keep (Under' p base filters) h = no_keep base h

  parts_no_keep : {m : _} → (row : Row_of-Formula m) → AllHaveNoKeep row → PartsCount IsNoKeep row
  parts_no_keep end_of-Formula h = tt
  parts_no_keep (more_of-Formula f rest) h = (no_keep f h.0, parts_no_keep rest h.1)

  links_no_keep : {m : _} → (row : Row_of-Link m) → LinksHaveNoKeep row → LinksCount IsNoKeep row
  links_no_keep end_of-Link h = tt
  links_no_keep (more_of-Link tight next rest) h = (no_keep next h.0, links_no_keep rest h.1)

ends_single : (name : List ℕ) (s e : ℕ) (v : Valuation) → e ≡ s → v ≡ record { position = s; names = name ∷ [] } ∷ [] → EndsBound s e v
ends_single name s e v to is = subst (EndsBound s e) (sym is) (inl (refl, refl), inl (sym to, refl))

ends_kept : (stream : Stream) → IsKept stream IsNoKeep EndsBound
ends_kept stream = record {
  single = λ name s e v h. ends_single name s e v h.ends h.bound;
  joined = λ s m n e v w p less q. (binds_left s v w p.0, binds_right e v w q.1);
  named = λ name c s e v h. (binds_named s name.text v h.0, binds_named e name.text v h.1);
  keeps = λ names c s e v h. absurd c;
}

ends_bound : (stream : Stream) (f : Formula) → HasNoKeep f → (s e : ℕ) (v : Valuation) → meaning stream f s e v → EndsBound s e v
ends_bound stream f h = every stream IsNoKeep EndsBound (ends_kept stream) f (no_keep f h)

pub bound_within : (Has : ℕ → Type 0) (s e p : ℕ) (v : Valuation) → AllWithin Has s e v → Binds p v → IsWithin Has s e p
bound_within Has s e p [] h b = absurd b
bound_within Has s e p (c ∷ v) h (inl b) = subst (IsWithin Has s e) b.0 h.0
bound_within Has s e p (c ∷ v) h (inr b) = bound_within Has s e p v h.1 b

-- SELECT changes no position.
pub lies_selected : (stream : Stream) (names : Option (List Name)) (f : Formula) (s e : ℕ) (v : Valuation) → selected names (meaning stream f) s e v → Lies stream s e v
lies_selected stream None f s e v h = lies stream f s e v h
lies_selected stream (Some names) f s e v h =
    let l = lies stream f s e h.0 h.1 in
    subst (Lies stream s e) (sym h.2) record { span = l.span; within = same_positions stream.Has (only_names names) s e h.0 l.within }

pub marks_within : (schema : Declared) (q : Query) (events : List Event) (end : ℕ) (answer : Answer) → IsAnswer schema q events end answer → (p : ℕ) → Contains answer.marks p → IsWithin (IsOfSubstream schema q events end) answer.start end p
marks_within schema q events end answer a p has =
    let m = a.marks in
    let l = lies_selected (substream schema q events end) q.select q.formula answer.start end m.valuation m.means in
    bound_within (IsOfSubstream schema q events end) answer.start end p m.valuation l.within
    (binds_from_any p m.valuation ((m.are_marks.bound p).0 has))

pub ends_marked : (schema : Declared) (q : Query) (events : List Event) (end : ℕ) (answer : Answer) → q.select ≡ None → HasNoKeep q.formula → IsAnswer schema q events end answer → Contains answer.marks answer.start × Contains answer.marks end
ends_marked schema q events end answer all none a =
    let m = a.marks in
    let stream = substream schema q events end in
    let means : meaning stream q.formula answer.start end m.valuation =
    subst (λ (names : Option (List Name)). selected names (meaning stream q.formula) answer.start end m.valuation) all m.means in
    let b = ends_bound stream q.formula none answer.start end m.valuation means in (
      (m.are_marks.bound answer.start).1 (any_from_binds answer.start m.valuation b.0),
      (m.are_marks.bound end).1 (any_from_binds end m.valuation b.1),
    )
