-- What is kept of whole rows of states.
use Rattle.std.specs.Prelude.{◌≡◌, ℕ, List, [], ◌∷◌, map, Some, None, nat_eq}
use Rattle.std.specs.List.{IsDistinct}
use Rattle.std.specs.Map.{lookup}
use Rattle.cea_determinise.specs.declared.table.TransitionKey.{TransitionKey}
use Rattle.cea_determinise.specs.declared.table.Successors.{Successors}
use Rattle.cea_determinise.specs.declared.rows.CachedTransition.{CachedTransition}
use Rattle.cea_determinise.specs.declared.rows.Effect.{Effect}
use Rattle.cea_determinise.specs.declared.rows.Effect.TheVariants.{Stays, Moves, Changes}
use Rattle.cea_determinise.specs.Keys.{is_same_key}

-- the start has no successor, and the states have these ones in order, unmarked
abbrev pub GoTo : List ℕ → List Successors → Type 0
GoTo ns moves = moves ≡ record { marked = None; unmarked = None } ∷ map (λ (n : ℕ). record { marked = None; unmarked = Some n }) ns

-- the states, whose successors these are, the start's first, do as it says
abbrev pub IsEffect : Effect → List ℕ → List Successors → Type 0
IsEffect Stays ns moves = GoTo ns moves
IsEffect (Moves targets) ns moves = GoTo targets.value.items moves × IsDistinct nat_eq targets.value.items
IsEffect Changes ns moves = Unit {0}

-- the transitions tell these successors of the states on events of the class, in order
abbrev pub AreListed : List (TransitionKey × Successors) → ℕ → List ℕ → List Successors → Type 0
AreListed ts event_class [] [] = Unit {0}
AreListed ts event_class [] (s ∷ ss) = ⊥
AreListed ts event_class (n ∷ ns) [] = ⊥
AreListed ts event_class (n ∷ ns) (s ∷ ss) = (lookup (is_same_key (record { state = n; event_class = event_class })) ts ≡ Some s) × AreListed ts event_class ns ss

-- The transitions tell the row's successors, and what it does is as it says.
pub record IsListed (ts : List (TransitionKey × Successors)) (r : CachedTransition) : Type 0 where
  pub told : AreListed ts r.event_class (0 ∷ r.states.items) r.successors.items
  pub effect : IsEffect r.effect r.states.items r.successors.items
