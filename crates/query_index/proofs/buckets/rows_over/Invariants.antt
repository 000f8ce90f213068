use Rattle.std.proofs.Common.{take}
use Rattle.query_index.specs.Runs.{AreMeetingRows}
use Rattle.query_index.proofs.buckets.rows_over.Given as goal

abbrev pub invariant-loop-piece : goal.invariant-loop-piece
invariant-loop-piece l = AreMeetingRows (take l.piece-index l.pieces) l.span l.rows.items
