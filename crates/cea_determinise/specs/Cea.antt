-- The stored automaton and its stored states, as the automaton and the states that they mean.
use Rattle.std.specs.Prelude.{◌≡◌, ℕ, ◌<◌, Bool, true, false, List, [], Option, Some, None, slice_index_or, length}
use Rattle.cer_base.specs.Bits.{has, room_for}
use Rattle.cea_determinise.specs.declared.cea.Cea.{Cea}
use Rattle.cea_determinise.specs.declared.cea.StateSets.{StateSets}
use Rattle.cea_determinise.specs.declared.cea.Side.{Side}
use Rattle.cea_determinise.specs.declared.cea.Side.TheVariants.{Marked, Unmarked}
use Rattle.cea_determinise.specs.Runs.{LeafSet, Automaton, pair}
use Rattle.cea_determinise.specs.Strict.{Standing, begin}

-- the set of a row; a row that is not there is empty
abbrev pub row : List (List Bool) → ℕ → LeafSet
row rows j k = has (slice_index_or rows j []) k

abbrev pub automaton_of_cea : Cea → Automaton
automaton_of_cea c = record {
  size = c.size;
  first = has c.first;
  last = has c.last;
  near = row c.near.items;
  far = row c.far.items;
  marked = has c.marked;
}

-- The set has room for the size, and holds no number from the size on.
pub record IsSet (size : ℕ) (set : List Bool) : Type 0 where
  pub room : length set ≡ room_for size
  pub below : (k : ℕ) → has set k ≡ true → k < size

-- there is a set for each number below the size
pub record AreRows (size : ℕ) (rows : List (List Bool)) : Type 0 where
  pub count : length rows ≡ size
  pub sets : (j : ℕ) (d : List Bool) → j < length rows → IsSet size (slice_index_or rows j d)

-- each set of the automaton is one of leaves below its size
pub record IsWellFormed (c : Cea) : Type 0 where
  pub first : IsSet c.size c.first
  pub last : IsSet c.size c.last
  pub near : AreRows c.size c.near.items
  pub far : AreRows c.size c.far.items
  pub marked : IsSet c.size c.marked

abbrev pub standing_of : StateSets → Standing
standing_of p = record { sets = pair (has p.fresh) (has p.waiting); phase = p.phase }

-- each set of the state is one of leaves below the size
pub record HasLeavesBelow (size : ℕ) (p : StateSets) : Type 0 where
  pub fresh : IsSet size p.fresh
  pub waiting : IsSet size p.waiting

-- the state of these sets, no sets being those of the start
abbrev pub standing : Option StateSets → Standing
standing None = begin
standing (Some p) = standing_of p

abbrev pub takes_marked : Side → Bool
takes_marked Marked = true
takes_marked Unmarked = false
