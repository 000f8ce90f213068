use Rattle.query_index.proofs.Covered.{rows_next}
use Rattle.query_index.proofs.buckets.pieces_of.Goals as goal

pub loop-row-preserved : goal.loop-row-preserved
loop-row-preserved c = rows_next c.args.rows.now c.args.leaves.now c.args.parting.now.place c.args.span.now c.loop-row.row-index _ c.in_ok-runs.runs.items c.as_slice.result.now c.loop-row.pieces.items c.push_pieces.new.pieces.items c.loop-row-test.true c.as_slice.ensures.value c.in_ok-runs.ensures c.in_ok-push_pieces.ensures c.loop-row.invariant
