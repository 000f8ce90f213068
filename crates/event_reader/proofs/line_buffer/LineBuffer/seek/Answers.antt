use Rattle.std.proofs.Common.{sym, subst, arith}
use Rattle.event_reader.specs.LineBuffers.{BufferState, IsFirstLineFeed}
use Rattle.event_reader.proofs.LineBufferParts.{long_before}
use Rattle.event_reader.proofs.line_buffer.LineBuffer.seek.Goals as goal

pub returns-then-place-gt-LONGEST_LINE-clause-stop : goal.returns-then-place-gt-LONGEST_LINE-clause-stop
returns-then-place-gt-LONGEST_LINE-clause-stop g c =
    long_before c.in-Some.place c.find.new.self.pending
    (subst (λ (h : BufferState). IsFirstLineFeed c.in-Some.place h.pending) (sym c.find.ensures.kept) c.in-Some.ensures.found) (omega arith)
