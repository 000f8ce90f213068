use Rattle.std.proofs.Common.{subst}
use Rattle.query_index.specs.Index.{AreBuckets, AreShared}
use Rattle.query_index.proofs.index.index_of.Goals as goal

pub returns-clause-index : goal.returns-clause-index
returns-clause-index c = record {
  buckets = subst (λ rs. AreBuckets rs c.args.leaves.now c.args.parting.now.place c.args.parting.now.kind c.in_ok-buckets.buckets.items) c.as_slice.ensures.value c.in_ok-buckets.ensures;
  shared = subst (λ rs. AreShared c.args.leaves.now rs c.in_ok-shared.shared) c.as_slice-2.ensures.value c.in_ok-shared.ensures;
}
