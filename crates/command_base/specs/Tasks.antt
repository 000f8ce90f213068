-- What a command is to the program: which files it reads, which of their texts it takes, how its events stop and what it writes.
use Rattle.std.specs.Prelude.{◌≡◌, ◌≢◌, ℕ, Bool, true, false, List, [], Option, Some, None, Ok, Err}
use Rattle.cer_outside.specs.Content.{Content, Missing, Holds, OfOpened}
use Rattle.stream_schema.specs.Types.{Declared}
use Rattle.cel_terms.specs.declared.Query.{Query}
use Rattle.event_run.specs.Runs.{RunStop}
use Rattle.stream_answers.specs.RunEnds.{EndClaims}
use Rattle.checkpoint_text.specs.declared.CheckpointFault.{CheckpointFault}
use Rattle.checkpoint_text.specs.declared.history.History.{History}
use Rattle.checkpoint_text.specs.Checkpoints.{checkpoint_of}
use Rattle.checkpoint_text.specs.ReaderAnswers.{AreGoodRead}
use Rattle.fault_notes.specs.declared.File.{File}
use Rattle.fault_notes.specs.declared.File.TheVariants as file
use Rattle.command_base.specs.Accepted.{Accepts, SaysOf}

-- The names of its files, one of them a checkpoint where it goes on from one; the clock that each declared type must have, where it asks for one, and whether a schema has it; how the events of the bytes of its last file stop, for the queries of the text and after the bytes of the checkpoint; and what is said of the output, which had taken the first and then the second.
pub record Task : Type 1 where
  pub queries : List ℕ
  pub checkpoint : Option (List ℕ)
  pub events : List ℕ
  pub clock : Option (List ℕ)
  pub fits : Declared → Bool
  pub stops : Declared → List Query → List ℕ → List ℕ → RunStop → Type 0
  pub said : (List ℕ → Content) → Option (List ℕ) → Option (List ℕ) → EndClaims

-- a name is given
abbrev pub IsGiven : Option (List ℕ) → Type 0
IsGiven None = ⊥
IsGiven (Some name) = Unit {0}

-- it goes on from a checkpoint
abbrev pub HasCheckpoint : Task → Type 0
HasCheckpoint t = IsGiven t.checkpoint

-- the name that is given, and no name where none is
abbrev pub name_in : Option (List ℕ) → List ℕ
name_in None = []
name_in (Some name) = name

-- the file's name on the command line
abbrev pub name_of : File → Task → List ℕ
name_of file.Queries t = t.queries
name_of file.Checkpoint t = name_in t.checkpoint
name_of file.Events t = t.events

-- the task reads such a file
abbrev pub ReadsFile : Task → File → Type 0
ReadsFile t file.Queries = Unit {0}
ReadsFile t file.Checkpoint = HasCheckpoint t
ReadsFile t file.Events = Unit {0}

-- the host tells these bytes of the task's checkpoint; of no file where it has none
abbrev pub CheckpointHolds : (List ℕ → Content) → Task → List ℕ → Type 0
CheckpointHolds content t kept = HasCheckpoint t → content (name_in t.checkpoint) ≡ Holds kept

-- the text is accepted, and its types have what the task asks of them
abbrev pub TakesText : Task → List ℕ → Type 0
TakesText t text = SaysOf text (λ schema queries. t.fits schema ≡ true)

-- this is the clock of the task, and the text is accepted but for it: some type lacks it
abbrev pub LacksItsClock : Task → List ℕ → List ℕ → Type 0
LacksItsClock t text name = (t.clock ≡ Some name) × SaysOf text (λ schema queries. t.fits schema ≡ false)

-- the checkpoint tells a history for the queries
abbrev pub TellsHistory : List ℕ → Declared → List Query → Type 0
TellsHistory kept schema queries = (history : History) × (checkpoint_of schema queries kept ≡ Ok history)

-- the text is accepted, and for its queries the task's checkpoint tells a history; a task that has none takes any bytes
abbrev pub TakesCheckpoint : Task → List ℕ → List ℕ → Type 0
TakesCheckpoint t text kept = HasCheckpoint t → SaysOf text (TellsHistory kept)

-- the task has a checkpoint and takes the text, for whose queries this is the first of its lines that is refused, and why
abbrev pub RefusesCheckpoint : Task → List ℕ → List ℕ → ℕ → CheckpointFault → Type 0
RefusesCheckpoint t text kept line fault = HasCheckpoint t × SaysOf text (λ schema queries. (t.fits schema ≡ true) × (checkpoint_of schema queries kept ≡ Err (record { line = line; fault = fault })))

-- The task takes the text and the checkpoint, and the events that it reads, or the commands of its script, stop so.
pub record TaskStops (t : Task) (text kept lines : List ℕ) (stop : RunStop) : Type 0 where
  pub schema : Declared
  pub queries : List Query
  pub accepted : Accepts text schema queries
  pub fits : t.fits schema ≡ true
  pub history : HasCheckpoint t → TellsHistory kept schema queries
  pub stops : t.stops schema queries kept lines stop

-- No line of the checkpoint is refused that ends among the bytes that a source, which failed, no longer has left.
pub record IsGoodSoFar (content : List ℕ → Content) (t : Task) (left : Option (List ℕ)) : Type 0 where
  pub good : (text kept : List ℕ) → content t.queries ≡ Holds text → content (name_in t.checkpoint) ≡ Holds kept → SaysOf text (λ schema queries. AreGoodRead schema queries kept left)

-- The host does not lack the task's checkpoint, which, where it is told, is one that the task takes.
pub record IsTakenUp (content : List ℕ → Content) (t : Task) : Type 0 where
  pub has : HasCheckpoint t → content (name_in t.checkpoint) ≢ Missing
  pub taken : (text kept : List ℕ) → content t.queries ≡ Holds text → CheckpointHolds content t kept → TakesCheckpoint t text kept

-- each file is opened only after those before it: the query file, whose text, where it is told, is one that the task takes, and the checkpoint
abbrev pub ComesInTurn : Task → File → (List ℕ → Content) → Type 0
ComesInTurn t file.Queries content = Unit {0}
ComesInTurn t file.Checkpoint content = HasCheckpoint t × OfOpened (content t.queries) (TakesText t)
ComesInTurn t file.Events content = OfOpened (content t.queries) (TakesText t) × IsTakenUp content t

-- The host lacks none of the task's files.
pub record HasFiles (content : List ℕ → Content) (t : Task) : Type 0 where
  pub queries : content t.queries ≢ Missing
  pub checkpoint : HasCheckpoint t → content (name_in t.checkpoint) ≢ Missing
  pub events : content t.events ≢ Missing
