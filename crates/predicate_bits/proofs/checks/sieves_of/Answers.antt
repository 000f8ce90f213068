use Rattle.predicate_bits.proofs.Checked.{sieves_more}
use Rattle.predicate_bits.proofs.checks.sieves_of.Goals as goal

pub loop-leaf-preserved : goal.loop-leaf-preserved
loop-leaf-preserved c = sieves_more c.args.list.now c.loop-leaf.sieves.items c.push.new.self.items c.loop-leaf.leaf-index c.leaf-item.result c.in_ok-sieve_of.field-0 c.as_slice.result.now c.loop-leaf-test.true c.leaf-item.is c.as_slice.ensures.value c.loop-leaf.invariant c.in_ok-sieve_of.ensures c.in_ok-push.ensures.items
