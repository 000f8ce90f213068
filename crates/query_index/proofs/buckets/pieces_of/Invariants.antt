use Rattle.std.proofs.Common.{take}
use Rattle.query_index.specs.Runs.{ArePieces}
use Rattle.query_index.proofs.buckets.pieces_of.Given as goal

abbrev pub invariant-loop-row : goal.invariant-loop-row
invariant-loop-row l = ArePieces (take l.row-index l.rows) l.leaves l.parting.place l.span l.pieces.items
