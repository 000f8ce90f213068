use Rattle.std.proofs.Common.{◌≡◌, true, take}
use Rattle.std.specs.List.{list_all}
use Rattle.query_leaves.specs.Shapes.{test_holds}
use Rattle.predicate_bits.proofs.holding.all_hold_flat.Given as goal

abbrev pub invariant-loop-test : goal.invariant-loop-test
invariant-loop-test l = list_all (λ t. test_holds t l.event) (take l.test-index l.tests) ≡ true
