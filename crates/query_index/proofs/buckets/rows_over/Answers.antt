use Rattle.std.proofs.Common.{◌+◌, ◌∙◌, sym, ap, subst, take, Vec, Global}
use Rattle.query_index.specs.declared.rows.LeafRow.{LeafRow}
use Rattle.query_index.specs.Runs.{AreMeetingRows}
use Rattle.query_index.proofs.Covered.{meeting_rows_put, meeting_rows_past}
use Rattle.query_index.proofs.buckets.rows_over.Goals.{then-meets+in_ok-push, else-meets}
use Rattle.query_index.proofs.buckets.rows_over.Goals as goal

pub loop-piece-preserved : goal.loop-piece-preserved
loop-piece-preserved c = elim c.if-meets.branch [
  | then-meets+in_ok-push w ↦ meeting_rows_put c.args.pieces.now c.args.span.now c.loop-piece.piece-index _ c.loop-piece.rows.items c.if-meets.rows.items c.loop-piece-test.true (ap (λ (v : Vec LeafRow Global). v.items) w.rows-is ∙ w.in_ok-push.ensures.items) c.loop-piece.invariant
  | else-meets w ↦ subst (λ (v : Vec LeafRow Global). AreMeetingRows (take (c.loop-piece.piece-index + 1) c.args.pieces.now) c.args.span.now v.items) (sym w.rows-is) (meeting_rows_past c.args.pieces.now c.args.span.now c.loop-piece.piece-index _ c.loop-piece.rows.items c.loop-piece-test.true (c.meets.ensures w.if-meets.false) c.loop-piece.invariant)
]
