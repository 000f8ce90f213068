use Rattle.std.proofs.Common.{◌++◌, All}
use Rattle.query_index.specs.Index.{IsIndex, HaveSame, gathered}
use Rattle.query_index.proofs.index.indexes_over.Given as goal

abbrev pub invariant-loop-k : goal.invariant-loop-k
invariant-loop-k l = record {
  rows : HaveSame l.rows (gathered l.indexes.items ++ l.left.items);
  each : All (IsIndex l.leaves) l.indexes.items;
}
