-- What is found of an automaton so far: sets with room for all leaves, and which leaf follows which.
use Rattle.std.specs.Prelude.{◌≡◌, ℕ, ◌<◌, ◌||◌, Bool, true, false, List, [], length, slice_index_or, ⊤}
use Rattle.cer_base.specs.Bits.{has, room_for}
use Rattle.query_leaves.specs.LeafTree.{LeafTree, leaf, none, sequence, either, plus}
use Rattle.cea_determinise.specs.Cea.{row}
use Rattle.cea_compile.specs.Compiled.{first_set}
use Rattle.cea_compile.specs.declared.followers.Followers.{Followers}
use Rattle.cea_compile.specs.declared.ends.Ends.{Ends}

-- a set for each leaf, each with room for all of them
pub record HaveRoom (size : ℕ) (rows : List (List Bool)) : Type 0 where
  pub count : length rows ≡ size
  pub each : (j : ℕ) → j < size → length (slice_index_or rows j []) ≡ room_for size

pub record FollowersHaveRoom (size : ℕ) (f : Followers) : Type 0 where
  pub near : HaveRoom size f.near.items
  pub far : HaveRoom size f.far.items

-- the second leaf may follow the first, next where tight, or later
abbrev pub pairs : Followers → Bool → ℕ → ℕ → Bool
pairs f true j = row f.near.items j
pairs f false j = row f.far.items j

pub record EndsHaveRoom (size : ℕ) (e : Ends) : Type 0 where
  pub first : length e.first ≡ room_for size
  pub last : length e.last ≡ room_for size

-- the set has the leaves that the tree may begin with, beside those that it had
pub record HasFirst (t : LeafTree ℕ) (old new : List Bool) : Type 0 where
  pub members : (k : ℕ) → has new k ≡ first_set t k || has old k
  pub room : length new ≡ length old

-- each number in the tree is below the size
abbrev pub AreBelow : ℕ → LeafTree ℕ → Type 0
AreBelow size (leaf n) = n < size
AreBelow size none = ⊤
AreBelow size (sequence tight a b) = AreBelow size a × AreBelow size b
AreBelow size (either a b) = AreBelow size a × AreBelow size b
AreBelow size (plus tight a) = AreBelow size a
