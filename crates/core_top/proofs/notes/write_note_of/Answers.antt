use Rattle.std.proofs.Common.{◌∙◌, ap}
use Rattle.fault_notes.specs.Notes.{checkpoint_note, clock_note}
use Rattle.core_top.proofs.Noted.{note_as}
use Rattle.core_top.proofs.notes.write_note_of.Goals as goal

pub returns-in_ok-note-in-Queries-clause-took : goal.returns-in_ok-note-in-Queries-clause-took
returns-in_ok-note-in-Queries-clause-took g c =
    rw c.in-Queries.is (note_as _ _ _ _ _ _ (c.as_slice.ensures.value ∙ c.in_ok-note-in-Queries.ensures) c.put-in-Queries.ensures)

pub returns-in_ok-note-in-ClockKind-clause-took : goal.returns-in_ok-note-in-ClockKind-clause-took
returns-in_ok-note-in-ClockKind-clause-took g c =
    rw c.in-ClockKind.is (note_as _ _ _ _ _ _ (c.as_slice-in-ClockKind.ensures.value ∙ c.in_ok-note-in-ClockKind.ensures ∙ ap clock_note c.as_str.ensures) c.put-in-ClockKind.ensures)

pub returns-in_ok-note-in-Event-clause-took : goal.returns-in_ok-note-in-Event-clause-took
returns-in_ok-note-in-Event-clause-took g c =
    rw c.in-Event.is (note_as _ _ _ _ _ _ (c.as_slice-in-Event.ensures.value ∙ c.in_ok-note-in-Event.ensures) c.put-in-Event.ensures)

pub returns-in_ok-note-in-InputTooLong-clause-took : goal.returns-in_ok-note-in-InputTooLong-clause-took
returns-in_ok-note-in-InputTooLong-clause-took g c =
    rw c.in-InputTooLong.is (note_as _ _ _ _ _ _ (c.as_slice-in-InputTooLong.ensures.value ∙ c.in_ok-note-in-InputTooLong.ensures) c.put-in-InputTooLong.ensures)

pub returns-in_ok-note-in-Checkpoint-clause-took : goal.returns-in_ok-note-in-Checkpoint-clause-took
returns-in_ok-note-in-Checkpoint-clause-took g c =
    rw c.in-Checkpoint.is (note_as _ _ _ _ _ _ (c.as_slice-in-Checkpoint.ensures.value ∙ c.in_ok-note-in-Checkpoint.ensures ∙ ap (checkpoint_note c.in-Checkpoint.line) c.words.ensures) c.put-in-Checkpoint.ensures)

pub returns-in-OpenFault-clause-took : goal.returns-in-OpenFault-clause-took
returns-in-OpenFault-clause-took g c = rw c.in-OpenFault.is (note_as _ _ _ _ _ _ c.open_note.ensures c.put-in-OpenFault.ensures)

pub returns-in-ReadFault-clause-took : goal.returns-in-ReadFault-clause-took
returns-in-ReadFault-clause-took g c = rw c.in-ReadFault.is (note_as _ _ _ _ _ _ c.read_note.ensures c.put-in-ReadFault.ensures)
