-- Rows that the transitions tell stay told as these grow. For callers of the crate too.
use Rattle.std.proofs.Common.{◌≡◌, ℕ, Bool, List, [], ◌∷◌, ◌++◌, Some, sym, subst, inl, inr, All}
use Rattle.std.specs.Map.{lookup}
use Rattle.std.proofs.lemmas.Bool.{cases_Bool}
use Rattle.std.proofs.lemmas.List.Elements.{All-nil, All-weaker}
use Rattle.cea_determinise.specs.declared.table.TransitionKey.{TransitionKey}
use Rattle.cea_determinise.specs.declared.table.Successors.{Successors}
use Rattle.cea_determinise.specs.declared.rows.CachedTransition.{CachedTransition}
use Rattle.cea_determinise.specs.Keys.{is_same_key}
use Rattle.cea_determinise.specs.Rows.{AreListed, IsListed}

pub lookup_more : (test : TransitionKey → Bool) (xs ys : List (TransitionKey × Successors)) (s : Successors) → lookup test xs ≡ Some s → lookup test (xs ++ ys) ≡ Some s
lookup_more test [] ys s h = absurd cc
lookup_more test (x ∷ xs) ys s h = elim (cases_Bool (test x.0)) [
  | inl hit ↦ rw hit (let g : Some x.1 ≡ Some s = rw hit at h in g)
  | inr miss ↦ rw miss (lookup_more test xs ys s (let g : lookup test xs ≡ Some s = rw miss at h in g))
]

listed_more : (xs ys : List (TransitionKey × Successors)) (event_class : ℕ) (ns : List ℕ) (ss : List Successors) → AreListed xs event_class ns ss → AreListed (xs ++ ys) event_class ns ss
listed_more xs ys event_class [] [] h = tt
listed_more xs ys event_class [] (s ∷ ss) h = absurd h
listed_more xs ys event_class (n ∷ ns) [] h = absurd h
listed_more xs ys event_class (n ∷ ns) (s ∷ ss) h = (lookup_more (is_same_key (record { state = n; event_class = event_class })) xs ys s h.0, listed_more xs ys event_class ns ss h.1)

pub rows_stay : (old new more : List (TransitionKey × Successors)) (rows : List CachedTransition) → new ≡ old ++ more → All (IsListed old) rows → All (IsListed new) rows
rows_stay old new more rows e all =
    subst (λ (ts : List (TransitionKey × Successors)). All (IsListed ts) rows) (sym e)
    (All-weaker (IsListed old) (IsListed (old ++ more)) (λ r h. record { told = listed_more old more r.event_class (0 ∷ r.states.items) r.successors.items h.told; effect = h.effect }) rows all)

pub no_rows : (ts : List (TransitionKey × Successors)) (rows : List CachedTransition) → rows ≡ [] → All (IsListed ts) rows
no_rows ts rows e = subst (All (IsListed ts)) (sym e) (All-nil (IsListed ts))
