use Rattle.std.proofs.Common.{sym, subst}
use Rattle.query_index.specs.Index.{AreBuckets}
use Rattle.query_index.specs.Runs.{ArePieces}
use Rattle.query_index.proofs.buckets.buckets_of.Goals as goal

pub loop-group-preserved : goal.loop-group-preserved
loop-group-preserved c = subst (λ k. AreBuckets c.args.rows.now c.args.leaves.now c.args.parting.now.place k c.put_group.new.buckets.items) c.whole-whole.ensures (c.in_ok-put_group.ensures c.args.rows.now c.args.leaves.now c.args.parting.now.place (subst (ArePieces c.args.rows.now c.args.leaves.now c.args.parting.now.place c.whole-whole.result) (sym c.as_slice.ensures.value) c.in_ok-pieces.ensures) (subst (λ k. AreBuckets c.args.rows.now c.args.leaves.now c.args.parting.now.place k c.loop-group.buckets.items) (sym c.whole-whole.ensures) c.loop-group.invariant))
