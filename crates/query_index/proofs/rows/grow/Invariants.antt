use Rattle.std.proofs.Common.{◌≡◌, ℕ, ◌≤◌, [], length, slice_index_or}
use Rattle.query_index.specs.Rows.{rows_of}
use Rattle.query_index.proofs.rows.grow.Given as goal

abbrev pub invariant-loop-n : goal.invariant-loop-n
invariant-loop-n l = record {
  room : l._n ≤ length l.rows.items;
  same : (t : ℕ) → slice_index_or (rows_of l.rows.items) t [] ≡ slice_index_or (rows_of l.fn.rows.items) t [];
}
