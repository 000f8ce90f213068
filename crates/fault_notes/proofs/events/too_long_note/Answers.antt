use Rattle.std.proofs.Common.{append_assoc, ◌∙◌}
use Rattle.fault_notes.proofs.events.too_long_note.Goals as goal

pub returns : goal.returns
returns c = rw c.into_bytes.ensures.value (c.in_ok-note.ensures.ok ∙ simp append_assoc)
