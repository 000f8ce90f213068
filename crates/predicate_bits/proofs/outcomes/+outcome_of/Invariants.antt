use Rattle.std.proofs.Common.{◌≡◌, true, take}
use Rattle.std.specs.List.{list_all, list_any}
use Rattle.stream_schema.specs.declared.Event.{Event}
use Rattle.query_leaves.specs.Shapes.{test_holds}
use Rattle.predicate_bits.specs.Spans.{allows, IsAt}
use Rattle.predicate_bits.proofs.outcomes.+outcome_of.Given as goal

abbrev pub invariant-outcome_of_all-loop-test : goal.invariant-outcome_of_all-loop-test
invariant-outcome_of_all-loop-test l = (event : Event) → IsAt l.place l.span event → allows l.all (list_all (λ t. test_holds t event) (take l.test-index l.tests)) ≡ true

abbrev pub invariant-outcome_of_any-loop-test : goal.invariant-outcome_of_any-loop-test
invariant-outcome_of_any-loop-test l = (event : Event) → IsAt l.place l.span event → allows l.any (list_any (λ t. test_holds t event) (take l.test-index l.tests)) ≡ true
