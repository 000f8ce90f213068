use Rattle.std.proofs.Common.{arith}
use Rattle.event_reader.proofs.QuotedParts.{quoted_part}
use Rattle.event_reader.proofs.quoted.quoted_part.Goals.{else-at-text-2-via-then-at-text-2+else-text-at-ne-COMMA, else-at-text-2-via-else-at-text-2}
use Rattle.event_reader.proofs.quoted.quoted_part.Goals as goal

pub returns : goal.returns
returns c =
    quoted_part c.args.text.now c.byte_at-at.result (omega (arith, c.if-at-text.false)) c.byte_at-at.ensures.none (c.byte_at-at.ensures.here (omega (arith, c.if-at-text.false)))
    (elim c.else-at-text-2.branch [
      | else-at-text-2-via-then-at-text-2+else-text-at-ne-COMMA w ↦ λ less. w.if-text-at-ne-COMMA.false
      | else-at-text-2-via-else-at-text-2 w ↦ λ less. absurd (omega (arith, less, w.if-at-text-2.false))
    ])
