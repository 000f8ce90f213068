use Rattle.std.proofs.Common.{◌-◌, ◌++◌, ◌≤◌, length, take, All}
use Rattle.query_index.specs.Index.{IsIndex, HaveSame, gathered}
use Rattle.query_index.proofs.sharing.put_runs.Given as goal

abbrev pub invariant-loop-from : goal.invariant-loop-from
invariant-loop-from l = record {
  inside : l.from ≤ length l.rows;
  same : HaveSame (gathered l.fn.indexes.items ++ take l.from l.rows) (gathered l.indexes.items ++ l.plain.items);
  each : All (IsIndex l.leaves) l.fn.indexes.items → All (IsIndex l.leaves) l.indexes.items;
}

abbrev pub decreases-loop-from : goal.decreases-loop-from
decreases-loop-from l = length l.rows - l.from
