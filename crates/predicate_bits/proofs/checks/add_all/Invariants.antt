use Rattle.std.proofs.Common.{take}
use Rattle.std.specs.List.{list_all}
use Rattle.query_leaves.specs.Shapes.{test_holds}
use Rattle.predicate_bits.specs.Checks.{Adds}
use Rattle.predicate_bits.proofs.checks.add_all.Given as goal

abbrev pub invariant-loop-test : goal.invariant-loop-test
invariant-loop-test l = Adds l.range (λ event. list_all (λ t. test_holds t event) (take l.test-index l.tests)) l.fn.checks.items l.checks.items
