use Rattle.std.proofs.Common.{ap, refl}
use Rattle.event_reader.specs.LineBuffers.{BufferState}
use Rattle.event_reader.proofs.GivenLines.{begun}
use Rattle.event_reader.proofs.reader.Lines.new.Goals as goal

pub returns-clause-given : goal.returns-clause-given
returns-clause-given c = λ bytes. begun _ bytes refl (ap (λ (h : BufferState). h.pending) c.in_ok-new.ensures) refl refl
