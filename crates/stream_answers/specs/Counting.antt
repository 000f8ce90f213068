-- How the steps of a run stand from event to event, and how a run ended over any source of events.
use Rattle.std.specs.Prelude.{◌≡◌, ℕ, ◌+◌, ◌≤◌, List, ◌++◌, length, Option, Result, Ok, Err, Some, OnOk}
use Rattle.cer_base.specs.declared.OrMemory.{OrMemory}
use Rattle.cer_base.specs.declared.OrMemory.TheVariants.{Fault, Memory}
use Rattle.answer_text.specs.declared.Order.{Order}
use Rattle.answer_text.specs.declared.Order.TheVariants.{Walk, Sorted}
use Rattle.answer_text.specs.OutputRows.{Row, lines_of}
use Rattle.output_laws.specs.After.{AreRowsAfter}
use Rattle.answer_blocks.specs.RowSteps.{row_delays, StopsAmong}
use Rattle.event_run.specs.Runs.{RunStop}
use Rattle.stream_schema.specs.declared.Event.{Event}
use Rattle.query_engine.specs.Engine.{EngineState, StandsFor}
use Rattle.query_engine.specs.Counts.{MeetMost, HasFewNodes}
use Rattle.stream_answers.specs.Gathering.{Running}
use Rattle.stream_answers.specs.Windows.{last_of, FollowsEvents, FollowsWindowsBy}
use Rattle.stream_answers.specs.declared.StreamFault.{StreamFault}
use Rattle.stream_answers.specs.RunEnds.{ByEnd}
use Rattle.stream_answers.specs.Steps.{AreBoundedBy, StepsTaken, compaction_by}
use Rattle.stream_answers.specs.Schedules.{Timing, Plan, due_by, saved_by, WithNoNumber, IsOnTime}
use Rattle.stream_answers.specs.Streams.{RunRequest, said_by, StandsForTaken}

-- What is written or held are the lines of the output's rows, the steps are bounded by these and the events, and the nodes by the events.
pub record Counted (Takes : List ℕ → List Event → RunStop → Type 0) (Has : List ℕ → List Event → Type 0) (timing : Timing) (earlier : List Event) (a : RunRequest) (source before after : Option (List ℕ)) (buffer : List ℕ) (engine : EngineState) (first now : ℕ) : Type 0 where
  pub running : Running Takes Has earlier a source before after buffer engine
  pub rows : List Row
  pub are_rows : AreRowsAfter (length earlier) a.order a.schema a.queries running.events rows
  pub lines : running.written ++ buffer ≡ lines_of rows
  pub bounded : AreBoundedBy timing a.schema a.queries running.events rows first now
  pub few : (most : ℕ → ℕ) → MeetMost a.schema a.queries running.events most → HasFewNodes engine (length running.events) most

-- What a run begins with: the engine stands for the events before it, which do not count for the plan, and is kept by the plan after them; these were the peaks before any event.
pub record HasBegun (plan : Plan) (peaks : ℕ → ℕ) (earlier : List Event) (engine : EngineState) : Type 0 where
  pub follows : FollowsEvents peaks engine earlier
  pub first : plan.timing.first ≡ length earlier
  pub on_time : WithNoNumber plan.timing.every (IsOnTime plan engine earlier)

-- The steps are counted so far, with those that the plan of this timing has put by, the nodes follow the windows of the queries, and the engine is kept by the plan; these were the peaks before any event.
pub record Following (Takes : List ℕ → List Event → RunStop → Type 0) (Has : List ℕ → List Event → Type 0) (timing : Timing) (plan : Plan) (earlier : List Event) (a : RunRequest) (source before after : Option (List ℕ)) (buffer : List ℕ) (engine : EngineState) (first now : ℕ) (peaks : ℕ → ℕ) : Type 0 where
  pub counting : Counted Takes Has timing earlier a source before after buffer engine first (now + saved_by timing.every engine plan.bases)
  pub windows : FollowsWindowsBy (due_by timing) peaks (last_of (due_by timing) (length counting.running.events)) counting.running.events engine
  pub on_time : WithNoNumber timing.every (IsOnTime plan engine counting.running.events)

-- After these events the engine was compacted, or that was not due: it stands for them, with few nodes, and took so many steps.
pub record IsCompacted (timing : Timing) (a : RunRequest) (events : List Event) (engine : EngineState) (before now : ℕ) : Type 0 where
  pub stands : StandsFor engine events
  pub few : (most : ℕ → ℕ) → MeetMost a.schema a.queries events most → HasFewNodes engine (length events) most
  pub steps : (most : ℕ → ℕ) → MeetMost a.schema a.queries events most → now ≤ before + compaction_by (due_by timing) (length a.queries) most (length events)

-- The steps of putting the rows of one position, where a write failed: so many at most, and the delay of each answer; in walk order of those alone whose lines were begun.
abbrev pub StepsAtFault : Order → Option (List ℕ) → Option (List ℕ) → List Row → ℕ → ℕ → Type 0
StepsAtFault Walk before after rows most now = StopsAmong before after rows most now
StepsAtFault Sorted before after rows most now = now ≤ most + row_delays rows

-- the steps of the lines of a position, by how the call that puts them ended
abbrev pub StepsPut : {T F : Type 0} → Order → Option (List ℕ) → Option (List ℕ) → List Row → ℕ → ℕ → Result T (OrMemory F) → Type 0
StepsPut order before after rows most now (Ok done) = now ≤ most + row_delays rows
StepsPut order before after rows most now (Err Memory) = now ≤ most + row_delays rows
StepsPut order before after rows most now (Err (Fault f)) = StepsAtFault order before after rows most now

-- How a run ended over a source: what was written, how many steps there are, and what the engine stands for where it ended well.
pub record RunEnded (Takes : List ℕ → List Event → RunStop → Type 0) (Read : Option (List ℕ) → List ℕ → List Event → Type 0) (timing : Timing) (peaks : ℕ → ℕ) (earlier : List Event) (a : RunRequest) (source left before after : Option (List ℕ)) (engine : EngineState) (first now : ℕ) {T : Type 0} (result : Result T (OrMemory StreamFault)) : Type 0 where
  pub wrote : ByEnd (said_by Takes Read (length earlier) a source before after) left result
  pub steps : (bytes : List ℕ) → source ≡ Some bytes → StepsTaken Takes timing (length earlier) a bytes before after first now result
  pub stands : OnOk result ((bytes : List ℕ) → source ≡ Some bytes → StandsForTaken Takes timing peaks bytes engine)
