use Rattle.cer_outside.specs.Bytes.{ReadsOn}
-- What was taken and what is left stay the same, and no read has failed.
use Rattle.std.proofs.Common.{◌≡◌, ◌-◌, ◌≤◌, true, length}
use Rattle.event_reader.specs.Lines.{has_line_feed}
use Rattle.event_reader.proofs.line_buffer.LineBuffer.seek_on.Given as goal

abbrev pub invariant-loop-place : goal.invariant-loop-place
invariant-loop-place g l = record {
  bytes : ReadsOn (g.Q.Source.left l.fn.source) (g.Q.Source.left l.source) l.fn.self.pending l.self.pending;
  room : length l.self.pending ≤ l.room;
  quiet : has_line_feed l.fn.self.pending ≡ true → (l.source ≡ l.fn.source) × (l.self.pending ≡ l.fn.self.pending);
  counted : g.Q.Source.faults l.source ≡ g.Q.Source.faults l.fn.source;
}

abbrev pub decreases-loop-place : goal.decreases-loop-place
decreases-loop-place g l = l.room - length l.self.pending
