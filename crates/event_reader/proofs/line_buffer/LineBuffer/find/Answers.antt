use Rattle.std.proofs.Common.{ap, sym, ◌∙◌, arith, ◌+◌, ◌≡◌, ◌-◌, length}
use Rattle.event_reader.specs.Lines.{has_line_feed}
use Rattle.event_reader.specs.LineBuffers.{BufferState, bytes_between}
use Rattle.event_reader.proofs.LineBufferParts.{searched_none, window_searched, found_plain, found_feed, length_between}
use Rattle.event_reader.proofs.line_buffer.LineBuffer.find.Goals as goal

pub invariant_of-self : goal.invariant_of-self
invariant_of-self c =
    let found = rw c.as_slice.ensures.value at c.in-Some.ensures in
    let l : length (bytes_between c.self.inside.buffer.items c.self.inside.searched c.self.inside.to) ≡ c.self.inside.to - c.self.inside.searched = length_between c.self.inside.buffer.items c.self.inside.searched c.self.inside.to (omega (arith, c.self.invariant.capacity, c.self.invariant.to_within)) in
    window_searched c.self.inside.buffer.items _ _ _ _ _ (c.self.inside.searched + c.in-Some.place) c.self.invariant (omega arith) (omega (arith, found.0.high))
    (found_plain c.self.inside.buffer.items _ _ _ _ _ c.in-Some.place c.self.invariant found.0.high found.0.before)

pub invariant_of-self-in-None : goal.invariant_of-self-in-None
invariant_of-self-in-None c =
    let none = rw c.as_slice.ensures.value at c.in-None.ensures in
    window_searched c.self.inside.buffer.items _ _ _ _ _ c.self.inside.to c.self.invariant c.self.invariant.searched_to (omega arith)
    (searched_none c.self.inside.buffer.items _ _ _ _ _ c.self.invariant none)

pub returns-in-Some-clause-found : goal.returns-in-Some-clause-found
returns-in-Some-clause-found c =
    let found = rw c.as_slice.ensures.value at c.in-Some.ensures in
    let here = found_feed c.self.inside.buffer.items _ _ _ _ _ c.in-Some.place c.self.invariant found in
    rw (ap (λ (h : BufferState). h.pending) c.self.view_is) at here

pub returns-in-None-clause-found : goal.returns-in-None-clause-found
returns-in-None-clause-found c =
    let none = rw c.as_slice.ensures.value at c.in-None.ensures in
    ap (λ (h : BufferState). has_line_feed h.pending) (sym c.self.view_is) ∙ searched_none c.self.inside.buffer.items _ _ _ _ _ c.self.invariant none
