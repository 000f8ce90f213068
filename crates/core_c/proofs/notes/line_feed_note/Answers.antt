use Rattle.std.proofs.Common.{append_assoc, ◌∙◌}
use Rattle.core_c.proofs.notes.line_feed_note.Goals as goal

-- the pieces in brackets of another form
pub returns : goal.returns
returns c = rw c.into_bytes.ensures.value (c.in_ok-note.ensures.ok ∙ simp append_assoc)
