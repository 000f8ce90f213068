use Rattle.std.proofs.Common.{◌≡◌, false, take}
use Rattle.std.specs.List.{list_any}
use Rattle.query_leaves.specs.Shapes.{test_holds}
use Rattle.predicate_bits.proofs.holding.any_holds_flat.Given as goal

abbrev pub invariant-loop-test : goal.invariant-loop-test
invariant-loop-test l = list_any (λ t. test_holds t l.event) (take l.test-index l.tests) ≡ false
