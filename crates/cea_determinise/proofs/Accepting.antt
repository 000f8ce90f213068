-- The table of the states that accept stays right as states come and go.
use Rattle.std.proofs.Common.{◌≡◌, ℕ, zero, suc, ◌<◌, ◌≤◌, Bool, List, [], ◌∷◌, ◌++◌, Option, Some, sym, ap, subst, ◌∙◌, arith, length, take, drop, length-append}
use Rattle.std.specs.Prelude.{slice_get}
use Rattle.std.proofs.lemmas.List.{length-take, take-append-drop}
use Rattle.std.proofs.lemmas.Option.{slice_get_within, same_Some}
use Rattle.cea_determinise.specs.declared.cea.Cea.{Cea}
use Rattle.cea_determinise.specs.declared.cea.StateSets.{StateSets}
use Rattle.cea_determinise.specs.Runs.{accepts}
use Rattle.cea_determinise.specs.Cea.{automaton_of_cea, standing, standing_of}
use Rattle.cea_determinise.specs.LazyDfa.{standing_at, Adds, TellsAccepting}
use Rattle.cea_determinise.proofs.Growth.{sets_at-later}

in_none : (k : ℕ) (b : Bool) → slice_get [] k ≡ Some b → ⊥
in_none k b at = absurd cc

-- a state that is known keeps what it does
same_later : (cea : Cea) (xs ys more : List StateSets) (k : ℕ) → ys ≡ xs ++ more → k < length xs → accepts (automaton_of_cea cea) (standing_at ys (suc k)).sets ≡ accepts (automaton_of_cea cea) (standing_at xs (suc k)).sets
same_later cea xs ys more k e h = ap (λ o. accepts (automaton_of_cea cea) (standing o).sets) (sets_at-later xs ys more (suc k) e (omega (arith, h)))

pub tells_later : (cea : Cea) (xs ys : List StateSets) (told : List Bool) (o : Option StateSets) → Adds o xs ys → TellsAccepting cea xs told → TellsAccepting cea ys told
tells_later cea xs ys told o a t = record {
  few = rw a.states (omega (arith, t.few, length-append xs a.more));
  right = λ k b at. t.right k b at ∙ sym (same_later cea xs ys a.more k a.states (omega (arith, t.few, slice_get_within told k b at)));
}

-- the first so many states
from_first : (told : List Bool) (n k : ℕ) (b : Bool) → slice_get (take n told) k ≡ Some b → slice_get told k ≡ Some b
from_first [] zero k b at = at
from_first [] (suc n) k b at = at
from_first (c ∷ told) zero k b at = absurd (in_none k b at)
from_first (c ∷ told) (suc n) zero b at = at
from_first (c ∷ told) (suc n) (suc k) b at = from_first told n k b at

pub tells_cut : (cea : Cea) (states : List StateSets) (told : List Bool) (n : ℕ) → TellsAccepting cea states told → TellsAccepting cea (take n states) (take n told)
tells_cut cea states told n t = record {
  few = few;
  right = λ k b at. t.right k b (from_first told n k b at)
      ∙ same_later cea (take n states) states (drop n states) k (sym (take-append-drop n states)) (omega (arith, few, slice_get_within (take n told) k b at));
}
  where
    few : length (take n told) ≤ length (take n states)
    few = omega (arith, t.few, length-take n told, length-take n states)

-- one state more
at_push : (told : List Bool) (c : Bool) (P : ℕ → Bool → Type 0) → ((k : ℕ) (b : Bool) → slice_get told k ≡ Some b → P k b) → P (length told) c → (k : ℕ) (b : Bool) → slice_get (told ++ c ∷ []) k ≡ Some b → P k b
at_push [] c P old new zero b at = subst (P 0) (same_Some c b at) new
at_push [] c P old new (suc k) b at = absurd (in_none k b at)
at_push (d ∷ told) c P old new zero b at = old zero b at
at_push (d ∷ told) c P old new (suc k) b at = at_push told c (λ j. P (suc j)) (λ j. old (suc j)) new k b at

pub tells_more : (cea : Cea) (states : List StateSets) (told : List Bool) (k : ℕ) (p : StateSets) (c : Bool) → TellsAccepting cea states told → length told ≡ k → slice_get states k ≡ Some p → c ≡ accepts (automaton_of_cea cea) (standing_of p).sets → TellsAccepting cea states (told ++ c ∷ [])
tells_more cea states told k p c t long at is = record {
  few = omega (arith, length-append told (c ∷ []), slice_get_within states k p at, long);
  right = at_push told c (λ j b. b ≡ accepts (automaton_of_cea cea) (standing_at states (suc j)).sets) t.right
      (is ∙ ap (λ o. accepts (automaton_of_cea cea) (standing o).sets) (sym at ∙ ap (slice_get states) (sym long)));
}
