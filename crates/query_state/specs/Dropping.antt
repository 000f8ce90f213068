-- Keys without lists, which may be removed.
use Rattle.std.specs.Prelude.{◌≡◌, ℕ, ◌≤◌, List, [], length, map, Option, Some, slice_get}
use Rattle.stream_schema.specs.declared.Value.{Value}
use Rattle.query_standing.specs.Kept.{Rows}
use Rattle.query_standing.specs.Giving.{AreRemoved}
use Rattle.query_state.specs.declared.lists.Lists.{Lists}

-- the lists of each key
abbrev pub rows_of : List Lists → List Rows
rows_of ls = map (λ l. l.active.entries) ls

-- from this number on each key has a list, but for the one that is told
abbrev pub HaveLists : ℕ → List Rows → Option ℕ → Type 0
HaveLists from rows told = (n : ℕ) → from ≤ n → slice_get rows n ≡ Some [] → told ≡ Some n

-- Keys without a list are removed, and each of the others has its lists.
pub record HaveRemoved (keys : List (List Value)) (lists : List Lists) (told : Option ℕ) (keys_new : List (List Value)) (lists_new : List Lists) (now : Option ℕ) : Type 0 where
  pub given : AreRemoved keys (rows_of lists) told keys_new (rows_of lists_new) now
  pub count : length keys_new ≡ length lists_new

-- Each key has a list, but for one at most.
pub record HaveListsButOne (rows : List Rows) : Type 0 where
  pub number : Option ℕ
  pub others : HaveLists 0 rows number
