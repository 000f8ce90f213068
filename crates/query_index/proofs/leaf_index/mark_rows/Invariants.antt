use Rattle.std.proofs.Common.{take}
use Rattle.query_index.specs.Rows.{awake, Marks}
use Rattle.query_index.proofs.leaf_index.mark_rows.Given as goal

abbrev pub invariant-loop-row : goal.invariant-loop-row
invariant-loop-row l = Marks (awake l.open_queries (take l.row-index l.rows)) l.leaves l.event l.fn.into l.into l.fn.sets l.sets
