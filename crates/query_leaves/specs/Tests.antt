-- What a test says of the predicate that it was made of.
-- Nobody needs to believe these; the public contracts speak of leaves and occurrences alone.
use Rattle.std.specs.Prelude.{◌≡◌, ℕ, false, List, ⊤}
use Rattle.std.specs.List.{AllZip, AllByRecursion}
use Rattle.stream_schema.specs.Types.{Declared}
use Rattle.stream_schema.specs.declared.Event.{Event}
use Rattle.cel_terms.specs.declared.Pred.{Pred, Cmp, Not', All', Any', Row_of-Pred, end_of-Pred, more_of-Pred}
use Rattle.query_leaves.specs.declared.Test.{Test}
use Rattle.query_leaves.specs.declared.Leaf.{Leaf}
use Rattle.cel_terms.specs.Predicate.{holds}
use Rattle.stream_schema.specs.Comparing.{HasFewPlaces}
use Rattle.query_leaves.specs.Expand.{Occurrence}
use Rattle.query_leaves.specs.Shapes.{test_holds, each_holds, IsLeafOf}
use Rattle.query_leaves.specs.Lawful.{TestHasFewPlaces}

-- no literal of the predicate has more than nine decimal places
abbrev mutual
  pub PredHasFewPlaces : Pred → Type 0
  PredHasFewPlaces (Cmp name op literal) = HasFewPlaces literal
  PredHasFewPlaces (Not' p pred) = PredHasFewPlaces pred
  PredHasFewPlaces (All' s preds) = PredsHaveFewPlaces preds
  PredHasFewPlaces (Any' s preds) = PredsHaveFewPlaces preds

  pub PredsHaveFewPlaces : {m : _} → Row_of-Pred m → Type 0
  PredsHaveFewPlaces end_of-Pred = ⊤
  PredsHaveFewPlaces (more_of-Pred pred rest) = PredHasFewPlaces pred × PredsHaveFewPlaces rest

-- The test holds of the same events of the type as the predicate.
pub record IsTestOf (schema : Declared) (ty : ℕ) (pred : Pred) (test : Test) : Type 0 where
  pub holds : (event : Event) → event.ty ≡ ty → test_holds test event ≡ holds schema pred event
  pub places : PredHasFewPlaces pred → TestHasFewPlaces test

abbrev pub AreTestsOf : Declared → ℕ → List Pred → List Test → Type 0
AreTestsOf schema ty = AllZip (IsTestOf schema ty)

abbrev pub OccurrenceHasFewPlaces : Occurrence → Type 0
OccurrenceHasFewPlaces o = AllByRecursion PredHasFewPlaces o.tests

abbrev pub LeafHasFewPlaces : Leaf → Type 0
LeafHasFewPlaces l = AllByRecursion TestHasFewPlaces l.tests

-- The leaf is the occurrence's, and has no more decimal places.
pub record IsMadeOf (schema : Declared) (o : Occurrence) (l : Leaf) : Type 0 where
  pub leaf : IsLeafOf schema o l
  pub places : OccurrenceHasFewPlaces o → LeafHasFewPlaces l

abbrev pub AreMadeOf : Declared → List Occurrence → List Leaf → Type 0
AreMadeOf schema = AllZip (IsMadeOf schema)

-- The tests hold of no event, and have no literal.
pub record HoldNever (tests : List Test) : Type 0 where
  pub never : (event : Event) → each_holds tests event ≡ false
  pub places : AllByRecursion TestHasFewPlaces tests
