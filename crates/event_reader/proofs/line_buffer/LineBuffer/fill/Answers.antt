use Rattle.std.proofs.Common.{◌∙◌, arith}
use Rattle.event_reader.proofs.LineBufferParts.{filled_window}
use Rattle.event_reader.proofs.line_buffer.LineBuffer.fill.Goals as goal

pub invariant_of-self : goal.invariant_of-self
invariant_of-self g c =
    filled_window c.self.inside.buffer.items c.read_after.new.buffer.items _ _ _ _ _ _ c.self.invariant
    (c.in_err-count.ensures.len ∙ c.move_to_front.ensures.len ∙ c.self.invariant.capacity)
    (c.in_err-count.ensures.before ∙ c.move_to_front.ensures.front) (omega arith) (omega (arith, c.self.invariant.to_within))

pub invariant_of-self-2 : goal.invariant_of-self-2
invariant_of-self-2 g c =
    filled_window c.self.inside.buffer.items c.read_after.new.buffer.items _ _ _ _ _ _ c.self.invariant
    (c.in_ok-count.ensures.len ∙ c.move_to_front.ensures.len ∙ c.self.invariant.capacity)
    (c.in_ok-count.ensures.before ∙ c.move_to_front.ensures.front) (omega arith) (omega (arith, c.self.invariant.to_within, c.in_ok-count.ensures.count, c.min-most.ensures))
