-- Which files a task opens, each once and in which order.
use Rattle.std.specs.Prelude.{◌≡◌, ℕ, ◌⊎◌, List, [], ◌∷◌, map, Option, Some, None}
use Rattle.cer_outside.specs.Content.{Content}
use Rattle.fault_notes.specs.declared.File.{File}
use Rattle.fault_notes.specs.declared.File.TheVariants as file
use Rattle.command_base.specs.declared.Cause.{Cause}
use Rattle.command_base.specs.declared.Cause.TheVariants as cause
use Rattle.command_base.specs.Tasks.{Task, ComesInTurn, name_of}

-- the host went from the first state to the last by one call for each of the names, in this order, and by no other call
abbrev pub OpensNames : {H : Type 0} → (H → List ℕ → H → Type 0) → H → List (List ℕ) → H → Type 0
OpensNames {H = H} call first [] last = last ≡ first
OpensNames {H = H} call first (name ∷ names) last = (next : H) × call first name next × OpensNames call next names last

-- all files of a task, by the name of its checkpoint, if it has one
abbrev pub files_with : Option (List ℕ) → List File
files_with None = file.Queries ∷ file.Events ∷ []
files_with (Some name) = file.Queries ∷ file.Checkpoint ∷ file.Events ∷ []

-- those up to this one
abbrev pub files_to : Task → File → List File
files_to t file.Queries = file.Queries ∷ []
files_to t file.Checkpoint = file.Queries ∷ file.Checkpoint ∷ []
files_to t file.Events = files_with t.checkpoint

-- the files that were opened, by the cause; memory may run out before and after each
abbrev pub AreOpened : Task → Cause → List File → Type 0
AreOpened t cause.Fine files = files ≡ files_to t file.Events
AreOpened t cause.Usage files = files ≡ []
AreOpened t (cause.Queries fault place) files = files ≡ files_to t file.Queries
AreOpened t (cause.ClockKind name) files = files ≡ files_to t file.Queries
AreOpened t (cause.Checkpoint line fault) files = files ≡ files_to t file.Checkpoint
AreOpened t (cause.Event line fault) files = files ≡ files_to t file.Events
AreOpened t (cause.InputTooLong taken) files = files ≡ files_to t file.Events
AreOpened t (cause.OpenFault opened before after) files = files ≡ files_to t opened
AreOpened t (cause.ReadFault read after) files = files ≡ files_to t read
AreOpened t (cause.WriteFault before after) files = files ≡ files_to t file.Events
AreOpened t cause.Memory files = (files ≡ []) ⊎ ((last : File) × (files ≡ files_to t last))

-- each of the files was opened in its turn
abbrev pub AllInTurn : Task → (List ℕ → Content) → List File → Type 0
AllInTurn t content [] = Unit {0}
AllInTurn t content (file ∷ files) = ComesInTurn t file content × AllInTurn t content files

-- The host was asked for the files that the cause tells, each once, in order and in its turn, and for no other.
pub record OpensInTurn {H : Type 0} (call : H → List ℕ → H → Type 0) (content : List ℕ → Content) (t : Task) (given : Cause) (first last : H) : Type 0 where
  pub files : List File
  pub told : AreOpened t given files
  pub turn : AllInTurn t content files
  pub steps : OpensNames call first (map (λ file. name_of file t) files) last
