-- The note that goes to standard error, by the cause.
use Rattle.std.specs.Prelude.{◌≡◌, ◌⊎◌, ℕ, List, [], Option, None}
use Rattle.cer_outside.specs.Causes.{Rose}
use Rattle.cer_outside.specs.Bytes.{TookAll, TookPart}
use Rattle.fault_notes.specs.Notes.{query_note, clock_note, checkpoint_note, event_note, too_long_note, open_note, read_note, write_note, memory_note, usage_note}
use Rattle.checkpoint_text.specs.FaultWords.{fault_words}
use Rattle.command_base.specs.declared.Cause.{Cause}
use Rattle.command_base.specs.declared.Cause.TheVariants as cause

-- one line, or nothing after a fine run
abbrev pub note_of : Cause → List ℕ
note_of cause.Fine = []
note_of cause.Usage = usage_note
note_of (cause.Queries fault place) = query_note fault place
note_of (cause.ClockKind name) = clock_note name
note_of (cause.Event line fault) = event_note line fault
note_of (cause.OpenFault opened before after) = open_note opened
note_of (cause.ReadFault read after) = read_note read
note_of (cause.WriteFault before after) = write_note
note_of cause.Memory = memory_note
note_of (cause.InputTooLong taken) = too_long_note taken
note_of (cause.Checkpoint line fault) = checkpoint_note line (fault_words fault)

-- The note was taken whole and the count stays, or it rose and a proper first part was taken.
abbrev pub TookNote : Option (List ℕ) → Option (List ℕ) → ℕ → ℕ → List ℕ → Type 0
TookNote before after old new note =
    (TookAll before after note × (new ≡ old)) ⊎ (TookPart before after note × Rose old new)

-- the note tells a text, a line or a number, so it takes memory
abbrev pub NeedsMemory : Cause → Type 0
NeedsMemory (cause.Queries fault place) = Unit {0}
NeedsMemory (cause.ClockKind name) = Unit {0}
NeedsMemory (cause.Event line fault) = Unit {0}
NeedsMemory (cause.InputTooLong taken) = Unit {0}
NeedsMemory (cause.Checkpoint line fault) = Unit {0}
NeedsMemory _ = ⊥

-- The cause and the source that failed are the same; or there was no memory for the cause's note, and that is the cause.
abbrev pub IsToldAs : {S : Type 0} → Cause → Option S → Cause → Option S → Type 0
IsToldAs {S} told failed given left = ((given ≡ told) × (left ≡ failed)) ⊎ (NeedsMemory told × (given ≡ cause.Memory) × (left ≡ None))
