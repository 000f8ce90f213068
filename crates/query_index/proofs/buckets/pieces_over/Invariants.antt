use Rattle.std.proofs.Common.{take}
use Rattle.query_index.specs.Runs.{AreMeeting}
use Rattle.query_index.proofs.buckets.pieces_over.Given as goal

abbrev pub invariant-loop-piece : goal.invariant-loop-piece
invariant-loop-piece l = AreMeeting (take l.piece-index l.pieces) l.span l.some.items
