-- What the shape and the tests of leaves say.
use Rattle.std.specs.Prelude.{◌≡◌, ℕ, Bool, true, false, not, ◌&&◌, ◌||◌, eqb, List, [], ◌∷◌, slice_get, ⊤}
use Rattle.stream_schema.specs.Types.{Declared}
use Rattle.stream_schema.specs.declared.Event.{Event}
use Rattle.query_leaves.specs.declared.Test.{Test, No, Cmp, Not', All', Any', Row_of-Test, end_of-Test, more_of-Test}
use Rattle.query_leaves.specs.declared.Leaf.{Leaf}
use Rattle.query_leaves.specs.declared.Shape.{Shape, Chain', Either', Plus', Row_of-Shape, end_of-Shape, more_of-Shape, Row_of-ShapePart, end_of-ShapePart, more_of-ShapePart}
use Rattle.query_leaves.specs.declared.Shape as shape
use Rattle.cel_terms.specs.Predicate.{some_meets}
use Rattle.cel_terms.specs.Answers.{is_bound}
use Rattle.query_leaves.specs.LeafTree.{LeafTree, leaf, none, sequence, either, plus}
use Rattle.query_leaves.specs.Expand.{Occurrence}
use Rattle.query_leaves.specs.Leaves.{occurrence_reads}

-- The tree that a shape is: the parts of a chain follow one another from the left, and the last choice is the innermost.
abbrev mutual
  pub tree_of_shape : Shape → LeafTree ℕ
  tree_of_shape (shape.Leaf k) = leaf k
  tree_of_shape (Chain' s parts) = chain_of_shapes parts
  tree_of_shape (Either' s choices) = choice_of_shapes choices
  tree_of_shape (Plus' tight p part) = plus tight (tree_of_shape part)

  pub chain_of_shapes : {m : _} → Row_of-ShapePart m → LeafTree ℕ
  chain_of_shapes end_of-ShapePart = none
  chain_of_shapes (more_of-ShapePart tight part rest) = linked_shapes (tree_of_shape part) rest

  pub linked_shapes : {m : _} → LeafTree ℕ → Row_of-ShapePart m → LeafTree ℕ
  linked_shapes before end_of-ShapePart = before
  linked_shapes before (more_of-ShapePart tight part rest) = linked_shapes (sequence tight before (tree_of_shape part)) rest

  pub choice_of_shapes : {m : _} → Row_of-Shape m → LeafTree ℕ
  choice_of_shapes end_of-Shape = none
  choice_of_shapes (more_of-Shape choice rest) = either (tree_of_shape choice) (choice_of_shapes rest)

-- the test holds of the event
abbrev mutual
  pub test_holds : Test → Event → Bool
  test_holds No event = false
  test_holds (Cmp place op literal) event = some_meets op (slice_get event.values place) literal
  test_holds (Not' p test) event = not (test_holds test event)
  test_holds (All' s tests) event = all_tests_hold tests event
  test_holds (Any' s tests) event = any_test_holds tests event

  pub all_tests_hold : {m : _} → Row_of-Test m → Event → Bool
  all_tests_hold end_of-Test event = true
  all_tests_hold (more_of-Test test rest) event = test_holds test event && all_tests_hold rest event

  pub any_test_holds : {m : _} → Row_of-Test m → Event → Bool
  any_test_holds end_of-Test event = false
  any_test_holds (more_of-Test test rest) event = test_holds test event || any_test_holds rest event

abbrev pub each_holds : List Test → Event → Bool
each_holds [] event = true
each_holds (test ∷ tests) event = test_holds test event && each_holds tests event

-- the leaf can read the event: its type is the event's, and its tests hold
abbrev pub leaf_reads : Leaf → Event → Bool
leaf_reads l event = eqb l.ty event.ty && each_holds l.tests event

-- A leaf is the occurrence's: it is marked where the position stays in the set of some name, and reads the same events.
pub record IsLeafOf (schema : Declared) (o : Occurrence) (l : Leaf) : Type 0 where
  pub marked : l.marked ≡ is_bound o.names
  pub reads : (event : Event) → leaf_reads l event ≡ occurrence_reads schema o event

-- one leaf for each occurrence, in order
abbrev pub AreLeavesOf : Declared → List Occurrence → List Leaf → Type 0
AreLeavesOf schema [] [] = ⊤
AreLeavesOf schema (o ∷ os) (l ∷ ls) = IsLeafOf schema o l × AreLeavesOf schema os ls
AreLeavesOf schema _ _ = ⊥
