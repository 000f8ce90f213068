use Rattle.std.proofs.Common.{◌≡◌, ◌++◌, take}
use Rattle.query_index.proofs.sharing.put_rows.Given as goal

abbrev pub invariant-loop-row : goal.invariant-loop-row
invariant-loop-row l = l.plain.items ≡ l.fn.plain.items ++ take l.row-index l.rows
