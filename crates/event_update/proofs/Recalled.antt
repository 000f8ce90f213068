-- Rows that the table keeps are rows that it knows.
use Rattle.std.proofs.Common.{◌≡◌, ℕ, suc, List, [], ◌∷◌, ◌++◌, Some, take, sym, ap, subst, ◌∙◌, arith}
use Rattle.std.specs.Prelude.{slice_get}
use Rattle.cea_determinise.specs.declared.table.Successors.{Successors}
use Rattle.cea_determinise.specs.declared.rows.CachedTransition.{CachedTransition}
use Rattle.cea_determinise.specs.declared.rows.Effect.{Effect}
use Rattle.cea_determinise.specs.LazyDfa.{Table, IsSound}
use Rattle.cea_determinise.specs.Rows.{AreListed, IsListed, IsEffect}
use Rattle.cea_determinise.proofs.Growth.{found_right}
use Rattle.event_update.specs.Update.{next_in, AreCached, IsRowOf}
use Rattle.event_update.proofs.Cached.{take_more, cached_length}
use Rattle.event_update.proofs.Kept.{cached_told}

listed_cached : (t : Table) → IsSound t → (event_class : ℕ) (ns : List ℕ) (ss : List Successors) → AreListed t.transitions event_class ns ss → AreCached t event_class ns ss
listed_cached t sound event_class [] [] h = tt
listed_cached t sound event_class [] (s ∷ ss) h = absurd h
listed_cached t sound event_class (n ∷ ns) [] h = absurd h
listed_cached t sound event_class (n ∷ ns) (s ∷ ss) h = (record { told = h.0; right = found_right t.cea t.states t.event_classes (record { state = n; event_class = event_class }) t.transitions s h.0 sound.transitions }, listed_cached t sound event_class ns ss h.1)

cached_listed : (t : Table) (event_class : ℕ) (ns : List ℕ) (ss : List Successors) → AreCached t event_class ns ss → AreListed t.transitions event_class ns ss
cached_listed t event_class [] [] h = tt
cached_listed t event_class [] (s ∷ ss) h = absurd h
cached_listed t event_class (n ∷ ns) [] h = absurd h
cached_listed t event_class (n ∷ ns) (s ∷ ss) h = (h.0.told, cached_listed t event_class ns ss h.1)

pub row_cached : (t : Table) → IsSound t → (r : CachedTransition) (event_class : ℕ) (ns : List ℕ) → IsListed t.transitions r → r.event_class ≡ event_class → ns ≡ r.states.items → AreCached t event_class (0 ∷ ns) r.successors.items
row_cached t sound r event_class ns h is_event_class is_states =
    subst (λ c. AreCached t c (0 ∷ ns) r.successors.items) is_event_class
    (subst (λ (ms : List ℕ). AreCached t r.event_class (0 ∷ ms) r.successors.items) (sym is_states) (listed_cached t sound r.event_class (0 ∷ r.states.items) r.successors.items h.told))

pub row_is : (t : Table) → IsSound t → (r : CachedTransition) (event_class : ℕ) (ns : List ℕ) → IsListed t.transitions r → r.event_class ≡ event_class → ns ≡ r.states.items → IsRowOf ns r
row_is t sound r event_class ns h is_event_class is_states =
    let cached = row_cached t sound r event_class ns h is_event_class is_states in
    let long = cached_length t event_class (0 ∷ ns) r.successors.items cached in
    record {
      same = sym is_states;
      count = omega (arith, long);
      told = record { next = next_in t event_class; told = cached_told t event_class (0 ∷ ns) r.successors.items cached };
      effect = subst (λ (ms : List ℕ). IsEffect r.effect ms r.successors.items) (sym is_states) h.effect;
    }

pub row_listed : (t : Table) (r : CachedTransition) (event_class : ℕ) (ns : List ℕ) (ss : List Successors) → r.event_class ≡ event_class → r.successors.items ≡ ss → IsRowOf ns r → AreCached t event_class (0 ∷ ns) ss → IsListed t.transitions r
row_listed t r event_class ns ss is_event_class is_successors row h = record {
  told =
      subst (λ c. AreListed t.transitions c (0 ∷ r.states.items) r.successors.items) (sym is_event_class)
      (subst (λ (ms : List ℕ). AreListed t.transitions event_class (0 ∷ ms) r.successors.items) (sym row.same)
      (subst (λ (ms : List Successors). AreListed t.transitions event_class (0 ∷ ns) ms) (sym is_successors) (cached_listed t event_class (0 ∷ ns) ss h)));
  effect = subst (λ (ms : List ℕ). IsEffect r.effect ms r.successors.items) (sym row.same) row.effect;
}

pub row_effect : (ns : List ℕ) (r : CachedTransition) (e : Effect) → IsRowOf ns r → r.effect ≡ e → IsEffect e ns r.successors.items
row_effect ns r e row is = subst (λ (f : Effect). IsEffect f ns r.successors.items) is row.effect

pub copied_next : (xs copy new : List ℕ) (k j n : ℕ) → j ≡ suc k → copy ≡ take k xs → slice_get xs k ≡ Some n → new ≡ copy ++ n ∷ [] → new ≡ take j xs
copied_next xs copy new k j n step h at e = e ∙ ap (λ zs. zs ++ n ∷ []) h ∙ sym (take_more xs k n at) ∙ ap (λ i. take i xs) (sym step)
