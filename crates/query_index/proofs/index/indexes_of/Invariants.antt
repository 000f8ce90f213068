use Rattle.query_index.specs.Rows.{rows_of}
use Rattle.query_index.specs.Index.{indexes_of}
use Rattle.query_index.proofs.Indexed.{AreIndexedTo}
use Rattle.query_index.proofs.index.indexes_of.Given as goal

abbrev pub invariant-loop-k : goal.invariant-loop-k
invariant-loop-k l = AreIndexedTo l.k l.leaves (rows_of l.rows) (indexes_of l.indexes.items)
