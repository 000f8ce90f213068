use Rattle.query_index.specs.Index.{AreBuckets}
use Rattle.query_index.proofs.buckets.buckets_of.Given as goal

abbrev pub invariant-loop-group : goal.invariant-loop-group
invariant-loop-group l = AreBuckets l.rows l.leaves l.parting.place l.parting.kind l.buckets.items
