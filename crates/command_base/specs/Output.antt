-- What the output has taken when a task ends.
use Rattle.std.specs.Prelude.{◌≡◌, ℕ, List, Option, Some}
use Rattle.cer_outside.specs.Content.{Content}
use Rattle.event_run.specs.Runs.{End, Event, InputTooLong}
use Rattle.fault_notes.specs.declared.File.TheVariants as file
use Rattle.command_base.specs.declared.Cause.{Cause}
use Rattle.command_base.specs.declared.Cause.TheVariants as cause
use Rattle.command_base.specs.Tasks.{Task, HasCheckpoint, IsGoodSoFar}

-- What the task says of its end, by the cause; nothing was taken where it ended before its last file was opened. `left` is what a source that failed has left.
abbrev pub WroteBy : Cause → (List ℕ → Content) → Task → Option (List ℕ) → Option (List ℕ) → Option (List ℕ) → Type 0
WroteBy cause.Fine content t left before after = (t.said content before after).stops End
WroteBy (cause.Event line fault) content t left before after = (t.said content before after).stops (Event line fault)
WroteBy (cause.InputTooLong taken) content t left before after = (t.said content before after).stops (InputTooLong taken)
WroteBy (cause.ReadFault file.Events to) content t left before after = (t.said content before after).unread left
WroteBy (cause.WriteFault from to) content t left before after = (t.said content before after).unwritten
WroteBy cause.Memory content t left before after = (t.said content before after).wants
WroteBy (cause.ReadFault file.Checkpoint to) content t left before after = HasCheckpoint t × (after ≡ before) × IsGoodSoFar content t left
WroteBy (cause.Checkpoint line fault) content t left before after = HasCheckpoint t × (after ≡ before)
WroteBy (cause.ClockKind name) content t left before after = (t.clock ≡ Some name) × (after ≡ before)
WroteBy (cause.Queries fault place) content t left before after = after ≡ before
WroteBy (cause.OpenFault opened from to) content t left before after = after ≡ before
WroteBy (cause.ReadFault file.Queries to) content t left before after = after ≡ before
WroteBy cause.Usage content t left before after = after ≡ before
