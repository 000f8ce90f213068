use Rattle.std.proofs.Common.{take}
use Rattle.query_index.specs.Rows.{awake, Marks}
use Rattle.query_index.specs.Index.{gathered}
use Rattle.query_index.proofs.leaf_index.mark_indexed.Given as goal

abbrev pub invariant-loop-index : goal.invariant-loop-index
invariant-loop-index l = Marks (awake l.open_queries (gathered (take l.index-index l.indexes))) l.leaves l.event l.fn.into l.into l.fn.sets l.sets
