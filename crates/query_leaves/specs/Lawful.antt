-- What everything that is built of leaves may rely on.
use Rattle.std.specs.Prelude.{◌≡◌, ℕ, ◌≤◌, List, [], ◌∷◌, ◌++◌, length, All, ⊤}
use Rattle.std.specs.List.{range_with_len}
use Rattle.cer_base.specs.declared.limits.TheConstants.{MOST_LEAVES}
use Rattle.query_leaves.specs.declared.Test.{Test, No, Cmp, Not', All', Any', Row_of-Test, end_of-Test, more_of-Test}
use Rattle.query_leaves.specs.declared.Leaves.{Leaves}
use Rattle.stream_schema.specs.Comparing.{HasFewPlaces}
use Rattle.query_leaves.specs.LeafTree.{LeafTree, leaf, none, sequence, either, plus}
use Rattle.query_leaves.specs.Shapes.{tree_of_shape}

-- the numbers of the leaves, from left to right
abbrev pub numbers : LeafTree ℕ → List ℕ
numbers (leaf k) = k ∷ []
numbers none = []
numbers (sequence tight a b) = numbers a ++ numbers b
numbers (either a b) = numbers a ++ numbers b
numbers (plus tight a) = numbers a

-- no literal of the test has more decimal places than a decimal may have
abbrev mutual
  pub TestHasFewPlaces : Test → Type 0
  TestHasFewPlaces No = ⊤
  TestHasFewPlaces (Cmp place op literal) = HasFewPlaces literal
  TestHasFewPlaces (Not' p test) = TestHasFewPlaces test
  TestHasFewPlaces (All' s tests) = TestsHaveFewPlaces tests
  TestHasFewPlaces (Any' s tests) = TestsHaveFewPlaces tests

  pub TestsHaveFewPlaces : {m : _} → Row_of-Test m → Type 0
  TestsHaveFewPlaces end_of-Test = ⊤
  TestsHaveFewPlaces (more_of-Test test rest) = TestHasFewPlaces test × TestsHaveFewPlaces rest

-- The shape has the number of each leaf once, from left to right.
abbrev pub AreNumbered : Leaves → Type 0
AreNumbered leaves = numbers (tree_of_shape leaves.shape) ≡ range_with_len 0 (length leaves.list)

-- No more leaves than a query may have; the shape has the number of each once, from left to right; no literal has more decimal places than a decimal may have.
pub record IsLawful (leaves : Leaves) : Type 0 where
  pub count : length leaves.list ≤ MOST_LEAVES
  pub order : AreNumbered leaves
  pub places : All (λ l. All TestHasFewPlaces l.tests) leaves.list
