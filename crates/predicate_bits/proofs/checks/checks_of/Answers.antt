use Rattle.std.proofs.Common.{[]}
use Rattle.predicate_bits.proofs.Checked.{adds_next, adds_all, comes_to}
use Rattle.predicate_bits.proofs.checks.checks_of.Goals as goal

pub loop-test-preserved : goal.loop-test-preserved
loop-test-preserved c = adds_next c.args.range.now c.args.tests.now c.loop-test.test-index c.test-item.result [] c.loop-test.checks.items c.add_joined.new.checks.items c.loop-test-test.true c.test-item.is c.loop-test.invariant (c.in_ok-add_joined.ensures c.if-not-branch.false)

pub returns : goal.returns
returns c = comes_to c.args.range.now c.args.tests.now c.loop-test.checks.items (adds_all c.args.range.now c.args.tests.now c.loop-test.test-index [] c.loop-test.checks.items c.loop-test-test.false c.loop-test.invariant)
