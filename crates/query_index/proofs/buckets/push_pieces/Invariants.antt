use Rattle.std.proofs.Common.{take}
use Rattle.query_index.specs.Runs.{HavePieces}
use Rattle.query_index.proofs.buckets.push_pieces.Given as goal

abbrev pub invariant-loop-run : goal.invariant-loop-run
invariant-loop-run l = HavePieces l.row (take l.run-index l.runs) l.fn.pieces.items l.pieces.items
