use Rattle.query_index.proofs.Indexed.{indexed_next, indexed_all}
use Rattle.query_index.proofs.index.indexes_of.Goals as goal

pub loop-k-preserved : goal.loop-k-preserved
loop-k-preserved c = indexed_next c.args.leaves.now c.args.rows.now c.loop-k.k c.index-rows-k.result c.as_slice.result.now c.loop-k.indexes.items c.push.new.self.items c.in_ok-indexes_for.field-0 c.loop-k-test.true c.index-rows-k.is c.as_slice.ensures.value c.in_ok-push.ensures.items c.in_ok-indexes_for.ensures c.loop-k.invariant

pub returns : goal.returns
returns c = indexed_all c.args.leaves.now c.args.rows.now c.loop-k.k c.loop-k.indexes.items c.loop-k-test.false c.loop-k.invariant
