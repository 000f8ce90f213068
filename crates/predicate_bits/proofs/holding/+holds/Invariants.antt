use Rattle.std.proofs.Common.{◌≡◌, true, false, take}
use Rattle.std.specs.List.{list_all, list_any}
use Rattle.query_leaves.specs.Shapes.{test_holds}
use Rattle.predicate_bits.proofs.holding.+holds.Given as goal

abbrev pub invariant-all_hold-loop-test : goal.invariant-all_hold-loop-test
invariant-all_hold-loop-test l = list_all (λ t. test_holds t l.event) (take l.test-index l.tests) ≡ true

abbrev pub invariant-any_holds-loop-test : goal.invariant-any_holds-loop-test
invariant-any_holds-loop-test l = list_any (λ t. test_holds t l.event) (take l.test-index l.tests) ≡ false
