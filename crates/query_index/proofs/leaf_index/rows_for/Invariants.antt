use Rattle.query_index.specs.Rows.{rows_of}
use Rattle.query_index.proofs.Listed.{IsLeafIndexUpTo}
use Rattle.query_index.proofs.leaf_index.rows_for.Given as goal

abbrev pub invariant-loop-k : goal.invariant-loop-k
invariant-loop-k l = IsLeafIndexUpTo l.k l.schema l.queries (rows_of l.rows.items) l.leaves.items
