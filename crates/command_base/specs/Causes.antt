-- How a call of the program ended, and when each answer may come.
use Rattle.std.specs.Prelude.{◌≡◌, ℕ, ◌⊎◌, List}
use Rattle.cer_outside.specs.Causes.{Rose, AllStay, RoseAt}
use Rattle.fault_notes.specs.declared.File.{File}
use Rattle.fault_notes.specs.declared.File.TheVariants as file
use Rattle.command_base.specs.declared.Cause.{Cause}
use Rattle.command_base.specs.declared.Cause.TheVariants as cause
use Rattle.command_base.specs.Tasks.{Task, name_of}

-- the exit status of each cause
abbrev pub status_of : Cause → ℕ
status_of cause.Fine = 0
status_of cause.Usage = 2
status_of (cause.Queries fault place) = 3
status_of (cause.ClockKind name) = 3
status_of (cause.Event line fault) = 4
status_of (cause.OpenFault opened before after) = 5
status_of (cause.ReadFault read after) = 5
status_of (cause.WriteFault before after) = 6
status_of cause.Memory = 7
status_of (cause.InputTooLong taken) = 8
status_of (cause.Checkpoint line fault) = 9

-- memory ran out, or the outside failed
abbrev pub IsFromOutside : Cause → Type 0
IsFromOutside cause.Memory = Unit {0}
IsFromOutside (cause.OpenFault opened before after) = Unit {0}
IsFromOutside (cause.ReadFault read after) = Unit {0}
IsFromOutside (cause.WriteFault before after) = Unit {0}
IsFromOutside _ = ⊥

-- all was well, or memory or the outside ended the call
abbrev pub IsFineOrOutside : Cause → Type 0
IsFineOrOutside cause.Fine = Unit {0}
IsFineOrOutside given = IsFromOutside given

-- all was well, or memory ran out
abbrev pub IsFineOrMemory : Cause → Type 0
IsFineOrMemory cause.Fine = Unit {0}
IsFineOrMemory cause.Memory = Unit {0}
IsFineOrMemory _ = ⊥

-- a file could not be read
abbrev pub IsReading : Cause → Type 0
IsReading (cause.ReadFault read after) = Unit {0}
IsReading _ = ⊥

-- The answer comes only where the fact holds; and where it holds, in each call that memory or the outside did not end.
pub record Exactly (given answer : Cause) (fact : Type 0) : Type 0 where
  pub only : given ≡ answer → fact
  pub whenever : fact → (given ≡ answer) ⊎ IsFromOutside given

-- The host's counts: as they were, but for the file that could not be opened.
abbrev pub CountsOpens : Cause → Task → (List ℕ → ℕ) → (List ℕ → ℕ) → Type 0
CountsOpens (cause.OpenFault opened before after) t old new = RoseAt (name_of opened t) old new
CountsOpens _ t old new = AllStay old new

-- The output's count: as it was, but where a write failed.
abbrev pub CountsWrites : Cause → ℕ → ℕ → Type 0
CountsWrites (cause.WriteFault before after) old new = Rose old new
CountsWrites _ old new = new ≡ old

-- this file is opened before that one
abbrev pub IsOpenedBefore : File → File → Type 0
IsOpenedBefore file.Queries file.Checkpoint = Unit {0}
IsOpenedBefore file.Queries file.Events = Unit {0}
IsOpenedBefore file.Checkpoint file.Events = Unit {0}
IsOpenedBefore _ _ = ⊥

-- The call ended where it needed a file that the host lacks: that file could not be opened, or a fault of the file before
-- it or running out of memory came first.
abbrev pub EndsWithout : File → Cause → Type 0
EndsWithout missing (cause.OpenFault opened before after) = (opened ≡ missing) ⊎ IsOpenedBefore opened missing
EndsWithout missing (cause.ReadFault read after) = IsOpenedBefore read missing
EndsWithout missing (cause.Queries fault place) = IsOpenedBefore file.Queries missing
EndsWithout missing (cause.ClockKind name) = IsOpenedBefore file.Queries missing
EndsWithout missing (cause.Checkpoint line fault) = IsOpenedBefore file.Checkpoint missing
EndsWithout missing cause.Memory = Unit {0}
EndsWithout missing _ = ⊥
