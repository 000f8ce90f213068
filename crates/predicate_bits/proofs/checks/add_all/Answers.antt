use Rattle.predicate_bits.proofs.Checked.{adds_next, adds_all}
use Rattle.predicate_bits.proofs.checks.add_all.Goals as goal

pub loop-test-preserved : goal.loop-test-preserved
loop-test-preserved c = adds_next c.args.range.now c.args.tests.now c.loop-test.test-index c.test-item.result c.args.checks.now.items c.loop-test.checks.items c.add_flat.new.checks.items c.loop-test-test.true c.test-item.is c.loop-test.invariant (c.in_ok-add_flat.ensures c.if-not-branch.false)

pub returns : goal.returns
returns c h = adds_all c.args.range.now c.args.tests.now c.loop-test.test-index c.args.checks.now.items c.loop-test.checks.items c.loop-test-test.false c.loop-test.invariant
