use Rattle.std.proofs.Common.{refl}
use Rattle.query_index.proofs.Covered.{pieces_next}
use Rattle.query_index.proofs.buckets.push_pieces.Goals as goal

pub loop-run-preserved : goal.loop-run-preserved
loop-run-preserved c = pieces_next c.args.row.now c.args.runs.now c.loop-run.run-index _ c.args.pieces.now.items c.loop-run.pieces.items c.push.new.self.items _ c.loop-run-test.true c.in_ok-push.ensures.items refl refl c.loop-run.invariant
