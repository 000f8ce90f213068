use Rattle.std.proofs.Common.{ap}
use Rattle.event_reader.specs.LineBuffers.{BufferState}
use Rattle.event_reader.proofs.LineBufferParts.{given_buffer, given_held}
use Rattle.event_reader.proofs.line_buffer.LineBuffer.give.Goals as goal

pub invariant_of-self : goal.invariant_of-self
invariant_of-self c =
    given_buffer c.self.inside.buffer.items _ _ _ _ _ c.args.start c.args.len c.args.end c.args.self.now.pending c.self.invariant
    (ap (λ (h : BufferState). h.pending) c.self.view_is) c.requires.start c.requires.len c.requires.end c.requires.short c.requires.plain

pub returns : goal.returns
returns c =
    given_held c.self.inside.buffer.items _ _ _ _ _ c.args.start c.args.len c.args.end c.args.self.now c.self.invariant
    (ap (λ (h : BufferState). h.pending) c.self.view_is) c.requires.start c.requires.len c.requires.end
