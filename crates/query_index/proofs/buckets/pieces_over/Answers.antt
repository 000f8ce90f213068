use Rattle.std.proofs.Common.{◌+◌, ◌∙◌, sym, ap, subst, take, Vec, Global}
use Rattle.query_index.specs.declared.buckets.Piece.{Piece}
use Rattle.query_index.specs.Runs.{AreMeeting}
use Rattle.query_index.proofs.Covered.{meeting_put, meeting_past}
use Rattle.query_index.proofs.buckets.pieces_over.Goals.{then-meets+in_ok-push, else-meets}
use Rattle.query_index.proofs.buckets.pieces_over.Goals as goal

pub loop-piece-preserved : goal.loop-piece-preserved
loop-piece-preserved c = elim c.if-meets.branch [
  | then-meets+in_ok-push w ↦ meeting_put c.args.pieces.now c.args.span.now c.loop-piece.piece-index _ c.loop-piece.some.items c.if-meets.some.items c.loop-piece-test.true (ap (λ (v : Vec Piece Global). v.items) w.some-is ∙ w.in_ok-push.ensures.items) c.loop-piece.invariant
  | else-meets w ↦ subst (λ (v : Vec Piece Global). AreMeeting (take (c.loop-piece.piece-index + 1) c.args.pieces.now) c.args.span.now v.items) (sym w.some-is) (meeting_past c.args.pieces.now c.args.span.now c.loop-piece.piece-index _ c.loop-piece.some.items c.loop-piece-test.true (c.meets.ensures w.if-meets.false) c.loop-piece.invariant)
]
