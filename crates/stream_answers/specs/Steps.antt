-- How many steps a run takes: of each event and query twice the bound of an update and one, of each answer its delay, and of each compaction and query nine times the bound of an update for each event so far. Where queries are compacted as they grow, 29 times the bound of an update and one of each event and query, in which their compactions are.
use Rattle.std.specs.Prelude.{◌≡◌, ℕ, ◌+◌, ◌*◌, ◌≤◌, Bool, cond, List, [], ◌∷◌, ◌++◌, length, map, sum, Option, None, Result}
use Rattle.std.specs.List.{range_with_len}
use Rattle.cer_base.specs.declared.OrMemory.{OrMemory}
use Rattle.cer_outside.specs.Bytes.{TookAll, TookPart}
use Rattle.stream_schema.specs.Types.{Declared}
use Rattle.stream_schema.specs.declared.Event.{Event as StreamEvent}
use Rattle.cel_terms.specs.declared.Query.{Query}
use Rattle.query_engine.specs.Counts.{MeetMost, event_bound, compaction_bound}
use Rattle.answer_text.specs.declared.Order.{Order}
use Rattle.answer_text.specs.declared.Order.TheVariants.{Walk, Sorted}
use Rattle.answer_text.specs.OutputRows.{Row, row_line, lines_of}
use Rattle.output_laws.specs.After.{AreRowsAfter}
use Rattle.answer_blocks.specs.RowSteps.{row_delays}
use Rattle.event_run.specs.Runs.{RunStop, RunsAfter}
use Rattle.stream_answers.specs.declared.StreamFault.{StreamFault}
use Rattle.stream_answers.specs.RunEnds.{EndClaims, ByEnd}
use Rattle.stream_answers.specs.Streams.{RunRequest}
use Rattle.stream_answers.specs.Schedules.{Timing, due_by, pace}

-- the steps of the compaction after so many events, none where none is due
abbrev pub compaction_by : (ℕ → Bool) → ℕ → (ℕ → ℕ) → ℕ → ℕ
compaction_by due queries most events = cond (due events) (compaction_bound queries most events) 0

-- for each compaction among so many events, which are counted from 1
abbrev pub compactions : (ℕ → Bool) → ℕ → (ℕ → ℕ) → ℕ → ℕ
compactions due queries most events = sum (map (compaction_by due queries most) (range_with_len 1 events))

-- for so many events, the answers of these rows, and the compactions of all queries
abbrev pub run_bound : Timing → ℕ → (ℕ → ℕ) → ℕ → List Row → ℕ
run_bound timing queries most events rows = events * pace timing.every queries most + row_delays rows + compactions (due_by timing) queries most events

-- However many states of each query the runs over the events meet, the steps are bounded by them.
abbrev pub AreBoundedBy : Timing → Declared → List Query → List StreamEvent → List Row → ℕ → ℕ → Type 0
AreBoundedBy timing schema queries events rows before now = (most : ℕ → ℕ) → MeetMost schema queries events most →
    now ≤ before + run_bound timing (length queries) most (length events) rows

-- OVER ANY SOURCE, as `Streams` has it

-- The steps are bounded by the events of a file of these bytes, and by the rows of the output behind the first ones.
pub record CountsTaken (Takes : List ℕ → List StreamEvent → RunStop → Type 0) (timing : Timing) (first : ℕ) (a : RunRequest) (lines : List ℕ) (Stops : RunStop → Type 0) (Took : List ℕ → Type 0) (before now : ℕ) : Type 0 where
  pub events : List StreamEvent
  pub stop : RunStop
  pub runs : Takes lines events stop
  pub stops : Stops stop
  pub rows : List Row
  pub are_rows : AreRowsAfter first a.order a.schema a.queries events rows
  pub took : Took (lines_of rows)
  pub bounded : AreBoundedBy timing a.schema a.queries events rows before now

-- A write failed in walk order, at the line of one of the answers: they are bounded by the events up to its position, and by that answer and those whose lines were taken.
pub record CountsUpTo (Takes : List ℕ → List StreamEvent → RunStop → Type 0) (timing : Timing) (first : ℕ) (a : RunRequest) (lines : List ℕ) (before after : Option (List ℕ)) (old now : ℕ) : Type 0 where
  pub events : List StreamEvent
  pub more : List StreamEvent
  pub stop : RunStop
  pub runs : Takes lines (events ++ more) stop
  pub whole : List Row
  pub one : Row
  pub later : List Row
  pub are_rows : AreRowsAfter first a.order a.schema a.queries events (whole ++ one ∷ later)
  pub last : one.end + 1 ≡ length events
  pub middle : Option (List ℕ)
  pub took : TookAll before middle (lines_of whole)
  pub part : TookPart middle after (row_line one)
  pub bounded : AreBoundedBy timing a.schema a.queries events (whole ++ one ∷ []) old now

-- where a write failed, by the order of the lines
abbrev pub CountsAtFaultBy : (List ℕ → List StreamEvent → RunStop → Type 0) → Timing → ℕ → Order → RunRequest → List ℕ → Option (List ℕ) → Option (List ℕ) → ℕ → ℕ → Type 0
CountsAtFaultBy Takes timing first Walk a lines before after old now = CountsUpTo Takes timing first a lines before after old now
CountsAtFaultBy Takes timing first Sorted a lines before after old now = CountsTaken Takes timing first a lines (λ halt. Unit {0}) (λ bytes. Unit {0}) old now

-- How the steps are bounded by what passes for the stop and what was taken of the lines, by how it ended: where it ended by itself these are its stop and all that was written.
abbrev pub counts_said : ((RunStop → Type 0) → (List ℕ → Type 0) → Type 0) → Type 0 → Option (List ℕ) → Option (List ℕ) → EndClaims
counts_said All AtFault before after = record {
  stops = λ halt. All (λ stop. stop ≡ halt) (TookAll before after);
  unread = λ left. All (λ halt. Unit {0}) (λ bytes. Unit {0});
  unwritten = AtFault;
  wants = All (λ halt. Unit {0}) (λ bytes. Unit {0});
}

-- by how it ended
abbrev pub StepsTaken : (List ℕ → List StreamEvent → RunStop → Type 0) → Timing → ℕ → RunRequest → List ℕ → Option (List ℕ) → Option (List ℕ) → ℕ → ℕ → {T : Type 0} → Result T (OrMemory StreamFault) → Type 0
StepsTaken Takes timing first a lines before after old now result =
    ByEnd (counts_said (λ Stops Took. CountsTaken Takes timing first a lines Stops Took old now) (CountsAtFaultBy Takes timing first a.order a lines before after old now) before after) None result

-- WHAT COMES AFTER OTHER EVENTS
-- `earlier` are events that came before; `events` are these and then those of the file, and all of them count.

-- The steps of events alone, which are taken before a schedule begins: no cursor is opened on their answers that is counted apart, and no compaction is made.
abbrev pub AreOfEvents : Declared → List Query → List StreamEvent → ℕ → ℕ → Type 0
AreOfEvents schema queries events before now = (most : ℕ → ℕ) → MeetMost schema queries events most → now ≤ before + length events * event_bound (length queries) most

abbrev pub CountsAllAfter : Timing → List StreamEvent → RunRequest → List ℕ → (RunStop → Type 0) → (List ℕ → Type 0) → ℕ → ℕ → Type 0
CountsAllAfter timing earlier a lines Stops Took before now = CountsTaken (RunsAfter earlier a.schema a.queries a.most_bytes) timing (length earlier) a lines Stops Took before now

abbrev pub CountsAtFaultAfter : Timing → List StreamEvent → Order → RunRequest → List ℕ → Option (List ℕ) → Option (List ℕ) → ℕ → ℕ → Type 0
CountsAtFaultAfter timing earlier order a lines before after old now = CountsAtFaultBy (RunsAfter earlier a.schema a.queries a.most_bytes) timing (length earlier) order a lines before after old now

abbrev pub StepsOverAfter : Timing → List StreamEvent → RunRequest → List ℕ → Option (List ℕ) → Option (List ℕ) → ℕ → ℕ → {T : Type 0} → Result T (OrMemory StreamFault) → Type 0
StepsOverAfter timing earlier a lines before after old now result = StepsTaken (RunsAfter earlier a.schema a.queries a.most_bytes) timing (length earlier) a lines before after old now result

-- WITH NO EVENT BEFORE

-- by how the run ended
abbrev pub StepsOver : Option ℕ → RunRequest → List ℕ → Option (List ℕ) → Option (List ℕ) → ℕ → ℕ → {T : Type 0} → Result T (OrMemory StreamFault) → Type 0
StepsOver every a lines before after old now result = StepsOverAfter (record { every = every; first = 0 }) [] a lines before after old now result
