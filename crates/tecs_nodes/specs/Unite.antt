-- Which nodes can be united, and into what. The chain of unions whose innermost one has the right
-- children follows "CORE: a Complex Event Recognition Engine" (PVLDB 2022).
use Rattle.std.specs.Prelude.{◌≡◌, ℕ, ◌+◌, ◌*◌, ◌++◌, cond, nat_le}
use Rattle.cer_base.specs.Repeats.{HasNoRepeats}
use Rattle.cer_base.specs.Members.{SetTree, Start, Extended, United, members, newest, IsSafe}

-- both are safe and have the same greatest start, and no member is in both
pub record CanUnite (a b : SetTree) : Type 0 where
  pub safe : IsSafe a × IsSafe b
  pub same_max : newest a ≡ newest b
  pub distinct : HasNoRepeats (members a ++ members b)

-- the union of the two, the one with the later start at the left, the first where they are equal
abbrev pub later_first : SetTree → SetTree → SetTree
later_first a b = cond (nat_le (newest b).pos (newest a).pos) (United a b) (United b a)

-- The one that is no union goes to the left. Of two unions both left children stand before a union of the right ones.
abbrev pub united : SetTree → SetTree → SetTree
united (Start s) b = United (Start s) b
united (Extended p t) b = United (Extended p t) b
united (United l r) (Start s) = United (Start s) (United l r)
united (United l r) (Extended p t) = United (Extended p t) (United l r)
united (United l r) (United m s) = United l (United m (later_first r s))

-- how many nodes that takes: three for two unions, else one
abbrev pub nodes_made : SetTree → SetTree → ℕ
nodes_made (Start s) b = 1
nodes_made (Extended p t) b = 1
nodes_made (United l r) (Start s) = 1
nodes_made (United l r) (Extended p t) = 1
nodes_made (United l r) (United m s) = 3

-- how many steps: each of the two is read, and for each node that is made its children are read and it is written
abbrev pub steps_taken : SetTree → SetTree → ℕ
steps_taken a b = 2 + 3 * nodes_made a b
