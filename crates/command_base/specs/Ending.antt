-- How a command ended, as the parts of the program tell it to each other. Private clauses alone cite this file.
use Rattle.std.specs.Prelude.{◌≡◌, ◌≢◌, ℕ, ◌⊎◌, List, Option, Some, None, Result, Ok, Err, IsSomeAnd}
use Rattle.cer_base.specs.declared.OrMemory.{OrMemory}
use Rattle.cer_base.specs.declared.OrMemory.TheVariants.{Fault, Memory}
use Rattle.cer_outside.specs.Causes.{Rose, AllStay, RoseAt}
use Rattle.cer_outside.specs.Content.{Content, Missing, Holds, HasOpened, OfOpened}
use Rattle.query_engine.specs.Engine.{EngineState}
use Rattle.event_run.specs.Runs.{RunStop}
use Rattle.event_run.specs.Runs as stop
use Rattle.stream_answers.specs.declared.StreamFault.{StreamFault}
use Rattle.stream_answers.specs.declared.StreamFault.TheVariants as fault
use Rattle.stream_answers.specs.RunEnds.{EndClaims}
use Rattle.checkpoint_text.specs.declared.CheckpointFault.{CheckpointFault}
use Rattle.fault_notes.specs.declared.File.{File}
use Rattle.fault_notes.specs.declared.File.TheVariants as file
use Rattle.command_base.specs.declared.files.TheConstants.{MOST_READ}
use Rattle.command_base.specs.declared.Cause.{Cause}
use Rattle.command_base.specs.declared.Cause.TheVariants as cause
use Rattle.command_base.specs.Accepted.{IsRefusedText}
use Rattle.command_base.specs.SourceBytes.{IsRestOf, TookAtMostOf}
use Rattle.command_base.specs.Sources.{Sources, left_by}
use Rattle.command_base.specs.Tasks.{Task, HasCheckpoint, CheckpointHolds, TakesText, LacksItsClock, RefusesCheckpoint, TaskStops, IsTakenUp, HasFiles, ComesInTurn, name_in, name_of}
use Rattle.command_base.specs.Causes.{CountsOpens, CountsWrites}
use Rattle.command_base.specs.Opening.{OpensInTurn}
use Rattle.command_base.specs.Output.{WroteBy}

-- the files, the host's counts of faults by their names and the output, before and after a call
pub record Outside : Type 0 where
  pub content : List ℕ → Content
  pub old : List ℕ → ℕ
  pub new : List ℕ → ℕ
  pub out_old : ℕ
  pub out_new : ℕ
  pub before : Option (List ℕ)
  pub after : Option (List ℕ)

-- those of a host and an output, by what the two tell of themselves
abbrev pub outside : {H K : Type 0} → (H → List ℕ → Content) → (H → List ℕ → ℕ) → (K → ℕ) → (K → Option (List ℕ)) → H → H → K → K → Outside
outside content faults writes taken host_old host_new out_old out_new = record {
  content = content host_old;
  old = faults host_old;
  new = faults host_new;
  out_old = writes out_old;
  out_new = writes out_new;
  before = taken out_old;
  after = taken out_new;
}

-- The source's count rose from 0 to after, and it has left the last part of what there was.
pub record FailedWith {S : Type 0} (sources : Sources S) (whole : Content) (after : ℕ) (source : S) : Type 0 where
  pub told : sources.faults source ≡ after
  pub rose : Rose 0 after
  pub rest : IsRestOf whole (sources.left source)

-- That of a file that was to be read whole: it gave no more than are read.
pub record FailedWhole {S : Type 0} (sources : Sources S) (whole : Content) (after : ℕ) (source : S) : Type 0 where
  pub failed : FailedWith sources whole after source
  pub within : TookAtMostOf MOST_READ whole (sources.left source)

-- why a file was not opened or read, with the host's count of its name before and after
abbrev pub ReadingStops : {S : Type 0} → Sources S → File → Content → ℕ → ℕ → Cause → Option S → Type 0
ReadingStops sources file whole old new (cause.OpenFault opened before after) failed = (opened ≡ file) × (before ≡ old) × (after ≡ new) × Rose old new × (failed ≡ None)
ReadingStops sources file whole old new (cause.ReadFault read after) failed = (read ≡ file) × IsSomeAnd failed (FailedWhole sources whole after)
ReadingStops sources file whole old new cause.Memory failed = failed ≡ None
ReadingStops sources file whole old new _ failed = ⊥

-- no file was opened
abbrev pub IsOpening : Cause → Type 0
IsOpening (cause.OpenFault opened before after) = Unit {0}
IsOpening cause.Memory = Unit {0}
IsOpening _ = ⊥

-- the host's counts after a file was not read
abbrev pub StopCounts : Cause → List ℕ → (List ℕ → ℕ) → (List ℕ → ℕ) → Type 0
StopCounts (cause.OpenFault opened before after) name old new = RoseAt name old new
StopCounts _ name old new = AllStay old new

-- Why something was not read of the file of this name: no engine is left.
pub record NotRead {S : Type 0} (Stops : Cause → Option S → Type 0) (name : List ℕ) (old new : List ℕ → ℕ) (given : Cause) (failed : Option S) (left : Option EngineState) : Type 0 where
  pub stops : Stops given failed
  pub counts : StopCounts given name old new
  pub none : left ≡ None

-- The host was asked for the file of this name, once, and has what it had.
pub record IsAskedFor {H : Type 0} (call : H → List ℕ → H → Type 0) (content : H → List ℕ → Content) (name : List ℕ) (first last : H) : Type 0 where
  pub opened : call first name last
  pub kept : (any : List ℕ) → content last any ≡ content first any

-- why there are no queries of a text
abbrev pub QueriesStop : {S : Type 0} → Sources S → Content → ℕ → ℕ → Cause → Option S → Type 0
QueriesStop sources whole old new (cause.Queries fault place) failed = (failed ≡ None) × OfOpened whole (λ text. IsRefusedText text fault place)
QueriesStop sources whole old new (cause.OpenFault opened before after) failed = ReadingStops sources file.Queries whole old new (cause.OpenFault opened before after) failed
QueriesStop sources whole old new (cause.ReadFault read after) failed = ReadingStops sources file.Queries whole old new (cause.ReadFault read after) failed
QueriesStop sources whole old new cause.Memory failed = failed ≡ None
QueriesStop sources whole old new _ failed = ⊥

-- the cause, with the output's count of faults before and after and the source's
abbrev pub cause_of : {T : Type 0} → Result T (OrMemory StreamFault) → ℕ → ℕ → ℕ → Cause
cause_of (Ok done) before after reads = cause.Fine
cause_of (Err (Fault (fault.Event line refusal))) before after reads = cause.Event line refusal
cause_of (Err (Fault (fault.InputTooLong taken))) before after reads = cause.InputTooLong taken
cause_of (Err (Fault fault.ReadFault)) before after reads = cause.ReadFault file.Events reads
cause_of (Err (Fault fault.WriteFault)) before after reads = cause.WriteFault before after
cause_of (Err Memory) before after reads = cause.Memory

-- the source, where it failed
abbrev pub failed_by : {T S : Type 0} → Result T (OrMemory StreamFault) → S → Option S
failed_by (Err (Fault fault.ReadFault)) source = Some source
failed_by _ source = None

-- What is said holds by the cause; the source that failed is handed back, and the counts rose where the cause tells it.
abbrev pub SourceStop : {S : Type 0} → Sources S → EndClaims → ℕ → ℕ → Cause → Option S → Type 0
SourceStop sources said out_old out_new cause.Fine failed = (failed ≡ None) × said.stops stop.End
SourceStop sources said out_old out_new (cause.Event line fault) failed = (failed ≡ None) × said.stops (stop.Event line fault)
SourceStop sources said out_old out_new (cause.InputTooLong taken) failed = (failed ≡ None) × said.stops (stop.InputTooLong taken)
SourceStop sources said out_old out_new (cause.ReadFault read to) failed = (read ≡ file.Events) × IsSomeAnd failed (λ s. (sources.faults s ≡ to) × Rose 0 to) × said.unread (left_by sources failed)
SourceStop sources said out_old out_new (cause.WriteFault from to) failed = (failed ≡ None) × (from ≡ out_old) × (to ≡ out_new) × Rose from to × said.unwritten
SourceStop sources said out_old out_new cause.Memory failed = (failed ≡ None) × said.wants
SourceStop sources said out_old out_new _ failed = ⊥

-- How a command ended over its last file: that was not opened, and nothing was written, or it ended so over what was left in it.
pub record FileStop {S : Type 0} (sources : Sources S) (said : Option (List ℕ) → EndClaims) (name : List ℕ) (o : Outside) (given : Cause) (failed : Option S) : Type 0 where
  pub way : (ReadingStops sources file.Events (o.content name) (o.old name) (o.new name) given failed × (o.after ≡ o.before) × IsOpening given)
      ⊎ ((source : Option (List ℕ)) × HasOpened (o.content name) source × SourceStop sources (said source) o.out_old o.out_new given failed)
  pub counts : StopCounts given name o.old o.new
  pub writes : CountsWrites given o.out_old o.out_new

-- The task went on to its events, and where the host tells its files they stop so.
pub record HasStopped {S : Type 0} (o : Outside) (t : Task) (stop : RunStop) (failed : Option S) : Type 0 where
  pub none : failed ≡ None
  pub taken : OfOpened (o.content t.queries) (TakesText t)
  pub resumed : IsTakenUp o.content t
  pub files : HasFiles o.content t
  pub stops : (text kept lines : List ℕ) → o.content t.queries ≡ Holds text → CheckpointHolds o.content t kept → o.content t.events ≡ Holds lines → TaskStops t text kept lines stop

-- The task goes on from a checkpoint, which the host does not lack and which, where it is told, is refused at this line.
pub record HasBadCheckpoint (content : List ℕ → Content) (t : Task) (line : ℕ) (fault : CheckpointFault) : Type 0 where
  pub resumes : HasCheckpoint t
  pub has : content (name_in t.checkpoint) ≢ Missing
  pub refused : (text kept : List ℕ) → content t.queries ≡ Holds text → CheckpointHolds content t kept → RefusesCheckpoint t text kept line fault

-- what holds of a cause besides what was written
abbrev pub CauseHolds : {S : Type 0} → Sources S → Outside → Task → Cause → Option S → Type 0
CauseHolds sources o t cause.Fine failed = HasStopped o t stop.End failed
CauseHolds sources o t cause.Usage failed = ⊥
CauseHolds sources o t (cause.Queries fault place) failed = (failed ≡ None) × (o.after ≡ o.before) × OfOpened (o.content t.queries) (λ text. IsRefusedText text fault place)
CauseHolds sources o t (cause.ClockKind name) failed = (failed ≡ None) × (o.after ≡ o.before) × OfOpened (o.content t.queries) (λ text. LacksItsClock t text name)
CauseHolds sources o t (cause.Checkpoint line fault) failed = (failed ≡ None) × (o.after ≡ o.before) × OfOpened (o.content t.queries) (TakesText t) × HasBadCheckpoint o.content t line fault
CauseHolds sources o t (cause.Event line fault) failed = HasStopped o t (stop.Event line fault) failed
CauseHolds sources o t (cause.InputTooLong taken) failed = HasStopped o t (stop.InputTooLong taken) failed
CauseHolds sources o t (cause.OpenFault opened from to) failed = (failed ≡ None) × (o.after ≡ o.before) × ComesInTurn t opened o.content × (from ≡ o.old (name_of opened t)) × (to ≡ o.new (name_of opened t)) × Rose from to
CauseHolds sources o t (cause.ReadFault file.Queries to) failed = (o.after ≡ o.before) × IsSomeAnd failed (FailedWhole sources (o.content t.queries) to)
CauseHolds sources o t (cause.ReadFault file.Checkpoint to) failed = (o.after ≡ o.before) × ComesInTurn t file.Checkpoint o.content × IsSomeAnd failed (FailedWith sources (o.content (name_in t.checkpoint)) to)
CauseHolds sources o t (cause.ReadFault file.Events to) failed = ComesInTurn t file.Events o.content × IsSomeAnd failed (FailedWith sources (o.content t.events) to)
CauseHolds sources o t (cause.WriteFault from to) failed = (failed ≡ None) × HasFiles o.content t × (from ≡ o.out_old) × (to ≡ o.out_new) × Rose from to
CauseHolds sources o t cause.Memory failed = (failed ≡ None) × ((o.after ≡ o.before) ⊎ HasFiles o.content t)

-- The task ended by this cause, with this source that failed.
pub record TaskEnded {S H : Type 0} (sources : Sources S) (call : H → List ℕ → H → Type 0) (o : Outside) (t : Task) (first last : H) (given : Cause) (failed : Option S) : Type 0 where
  pub holds : CauseHolds sources o t given failed
  pub wrote : WroteBy given o.content t (left_by sources failed) o.before o.after
  pub counts_opens : CountsOpens given t o.old o.new
  pub counts_writes : CountsWrites given o.out_old o.out_new
  pub opens : OpensInTurn call o.content t given first last
