-- What the calls that work out a successor ask of the automaton, a state and an event, and the sets of leaves that they give.
use Rattle.std.specs.Prelude.{◌≡◌, ℕ, ◌<◌, List, Bool, Option, IfSome, length, All}
use denote.Ref.{Bor}
use Rattle.cer_base.specs.Bits.{has, room_for}
use Rattle.cea_determinise.specs.declared.cea.Cea.{Cea}
use Rattle.cea_determinise.specs.declared.cea.StateSets.{StateSets}
use Rattle.cea_determinise.specs.Runs.{LeafSet}
use Rattle.cea_determinise.specs.Cea.{IsSet, IsWellFormed, HasLeavesBelow}

-- The leaf is one of the automaton's.
pub record IsLeafOf (c : Cea) (leaf : ℕ) : Type 0 where
  pub well_formed : IsWellFormed c
  pub inside : leaf < c.size

-- The leaves are ones of the automaton's.
pub record AreLeavesOf (c : Cea) (leaves : List Bool) : Type 0 where
  pub well_formed : IsWellFormed c
  pub set : IsSet c.size leaves

-- The event has as many leaves as the automaton.
pub record IsEventOf (c : Cea) (bits : List Bool) : Type 0 where
  pub well_formed : IsWellFormed c
  pub room : length bits ≡ room_for c.size

-- The sets of the state are ones of the automaton's leaves; the start has none.
pub record IsStateOf (c : Cea) (p : Option (Bor StateSets)) : Type 0 where
  pub well_formed : IsWellFormed c
  pub sets : IfSome p (λ p. HasLeavesBelow c.size p.now)

-- Such a state, and an event of as many leaves.
pub record CanRead (c : Cea) (p : Option (Bor StateSets)) (bits : List Bool) : Type 0 where
  pub state : IsStateOf c p
  pub room : length bits ≡ room_for c.size

-- The sets of the states are ones of the automaton's leaves.
pub record AreStatesOf (c : Cea) (states : List StateSets) : Type 0 where
  pub well_formed : IsWellFormed c
  pub sets : All (HasLeavesBelow c.size) states

-- The set has room for the size, and holds these leaves.
pub record Holds (size : ℕ) (leaves : LeafSet) (set : List Bool) : Type 0 where
  pub room : length set ≡ room_for size
  pub members : (k : ℕ) → has set k ≡ leaves k

-- The set holds these leaves, and none from the size on.
pub record HoldsBelow (size : ℕ) (leaves : LeafSet) (set : List Bool) : Type 0 where
  pub below : IsSet size set
  pub members : (k : ℕ) → has set k ≡ leaves k
