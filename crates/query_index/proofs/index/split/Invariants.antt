use Rattle.std.proofs.Common.{take}
use Rattle.query_index.specs.Index.{AreSplit}
use Rattle.query_index.proofs.index.split.Given as goal

abbrev pub invariant-loop-row : goal.invariant-loop-row
invariant-loop-row l = AreSplit (take l.row-index l.rows) l.taken.items l.left.items
