use Rattle.std.proofs.Common.{subst}
use Rattle.query_index.specs.Rows.{rows_of}
use Rattle.query_index.specs.Index.{AreIndexed, indexes_of}
use Rattle.query_index.proofs.leaf_index.LeafIndex.of.Goals as goal

pub invariant_of-result : goal.invariant_of-result
invariant_of-result c = (c.in_ok-rows.ensures.below, subst (λ ls. AreIndexed ls (rows_of c.in_ok-rows.rows.items) (indexes_of c.in_ok-indexes.indexes.items)) c.as_slice-2.ensures.value (subst (λ vs. AreIndexed c.as_slice-2.result.now (rows_of vs) (indexes_of c.in_ok-indexes.indexes.items)) c.as_slice.ensures.value c.in_ok-indexes.ensures), c.in_ok-rows.ensures.alike)
