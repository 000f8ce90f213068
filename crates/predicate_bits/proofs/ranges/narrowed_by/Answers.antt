use Rattle.std.proofs.Common.{subst, take_all}
use Rattle.std.specs.List.{list_all}
use Rattle.query_leaves.specs.Shapes.{test_holds}
use Rattle.predicate_bits.specs.Ranges.{Narrows}
use Rattle.predicate_bits.proofs.Ranged.{narrows_next}
use Rattle.predicate_bits.proofs.ranges.narrowed_by.Goals as goal

pub loop-test-preserved : goal.loop-test-preserved
loop-test-preserved c = narrows_next test_holds c.args.tests.now c.loop-test.test-index c.test-item.result c.args.range.now c.loop-test.left c.narrowed-left.result c.loop-test-test.true c.test-item.is c.loop-test.invariant c.narrowed-left.ensures

pub returns : goal.returns
returns c = subst (λ ts. Narrows c.args.range.now c.loop-test.left (λ event. list_all (λ t. test_holds t event) ts)) (take_all c.loop-test.test-index c.args.tests.now c.loop-test-test.false) c.loop-test.invariant
