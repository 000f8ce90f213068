use Rattle.std.proofs.Common.{◌≡◌, false, sym, ◌∙◌, ap, subst, arith}
use Rattle.event_reader.specs.Lines.{has_line_feed}
use Rattle.event_reader.specs.LineBuffers.{BufferState, IsFirstLineFeed}
use Rattle.event_reader.proofs.LineBufferParts.{long_before, long_plain, short_still}
use Rattle.event_reader.proofs.line_buffer.LineBuffer.seek_on.Goals as goal

pub returns-then-place-gt-LONGEST_LINE-clause-stop : goal.returns-then-place-gt-LONGEST_LINE-clause-stop
returns-then-place-gt-LONGEST_LINE-clause-stop g c =
    long_before c.in-Some.place c.find.new.self.pending
    (subst (λ (h : BufferState). IsFirstLineFeed c.in-Some.place h.pending) (sym c.find.ensures.kept) c.in-Some.ensures.found) (omega arith)

pub returns-then-len-gt-LONGEST_LINE-clause-stop : goal.returns-then-len-gt-LONGEST_LINE-clause-stop
returns-then-len-gt-LONGEST_LINE-clause-stop g c =
    long_plain c.find.new.self.pending (ap (λ (h : BufferState). has_line_feed h.pending) c.find.ensures.kept ∙ c.in_default.ensures.found) (omega arith)

pub returns-in-Ok-eq0-clause-stop : goal.returns-in-Ok-eq0-clause-stop
returns-in-Ok-eq0-clause-stop g c =
    let plain : has_line_feed c.find.new.self.pending ≡ false = ap (λ (h : BufferState). has_line_feed h.pending) c.find.ensures.kept ∙ c.in_default.ensures.found in (
      short_still c.find.new.self.pending c.fill.new.self.pending c.in-Ok-eq0.field-0 plain (omega arith) c.in-Ok-eq0.ensures.kept c.in-Ok-eq0.ensures.count c.in-Ok-eq0.field-0-test,
      omega (arith, c.in-Ok-eq0.ensures.count),
      c.in-Ok-eq0.ensures.end c.in-Ok-eq0.field-0-test,
    )
