-- Which nodes a union list can take in one after the other.
use Rattle.std.specs.Prelude.{ℕ, ◌<◌, ◌≤◌, List, ◌++◌, length, map, take, All, flat_map}
use Rattle.cer_base.specs.declared.node.Root.{Root}
use Rattle.cer_base.specs.declared.node.Node.{Node}
use Rattle.cer_base.specs.Repeats.{HasNoRepeats}
use Rattle.cer_base.specs.Members.{SetTree, members, IsSafe}
use Rattle.union_lists.specs.Lists.{top, trees, IsUnionList}
use Rattle.set_tests.specs.Parts.{trees_at}

-- Each is safe and starts no later than the list's first entry, and no member is in two of them or in one and in the list.
pub record CanInsertAll (nodes : List Node) (l : List Root) (ids : List ℕ) : Type 0 where
  pub list : IsUnionList nodes l
  pub inside : All (λ id. id < length nodes) ids
  pub safe : All IsSafe (trees_at nodes ids)
  pub below : All (λ (t : SetTree). All (λ n. top t ≤ n) (take 1 (map top (trees nodes l)))) (trees_at nodes ids)
  pub distinct : HasNoRepeats (flat_map members (trees nodes l ++ trees_at nodes ids))
