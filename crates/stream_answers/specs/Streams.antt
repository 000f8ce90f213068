-- What has been written of the answers over the events of a source, which may come after others, by how it ended.
use Rattle.std.specs.Prelude.{◌≡◌, ℕ, List, [], length, Option, Some, Result}
use Rattle.cer_base.specs.declared.OrMemory.{OrMemory}
use Rattle.cer_outside.specs.Bytes.{TookAll, TookPart}
use Rattle.stream_schema.specs.Types.{Declared}
use Rattle.stream_schema.specs.declared.Event.{Event as StreamEvent}
use Rattle.cel_terms.specs.declared.Query.{Query}
use Rattle.answer_text.specs.declared.Order.{Order}
use Rattle.output_laws.specs.After.{IsOutputAfter}
use Rattle.answer_blocks.specs.SinkBytes.{TookPrefix}
use Rattle.query_engine.specs.Engine.{EngineState, StandsFor}
use Rattle.event_run.specs.Runs.{RunStop, RunsAfter}
use Rattle.event_run.specs.Runs as stop
use Rattle.event_run.specs.Taking.{AreEventsReadAfter}
use Rattle.stream_answers.specs.Windows.{last_of, FollowsWindowsBy}
use Rattle.stream_answers.specs.Schedules.{Timing, due_by, WithNoNumber, KeepsUp}
use Rattle.stream_answers.specs.declared.RunOptions.{RunOptions}
use Rattle.stream_answers.specs.declared.StreamFault.{StreamFault}
use Rattle.stream_answers.specs.RunEnds.{EndClaims, ByEnd}

-- the schema and the queries, and how many bytes of events, or of a script, are too many
pub record EventsRequest : Type 0 where
  pub schema : Declared
  pub queries : List Query
  pub most_bytes : ℕ

-- the schema and the queries, how lines are ordered, and how many bytes are too many
pub record RunRequest : Type 0 where
  pub order : Order
  pub schema : Declared
  pub queries : List Query
  pub most_bytes : ℕ

-- what is asked of the events of an engine's queries, by the options of a run
abbrev pub asked_by : RunOptions → EngineState → RunRequest
asked_by options engine = record { order = options.order; schema = engine.schema; queries = engine.queries; most_bytes = options.most_bytes }

-- OVER ANY SOURCE
-- `Takes lines events stop`: where the queries take the events of a file of these bytes and stop so, these are all events. The answers at the `first` ones are not asked for.

-- The bytes are the answers over the events of a file of these bytes.
pub record AreAnswersBy (Takes : List ℕ → List StreamEvent → RunStop → Type 0) (first : ℕ) (a : RunRequest) (lines bytes : List ℕ) : Type 0 where
  pub events : List StreamEvent
  pub stop : RunStop
  pub runs : Takes lines events stop
  pub output : IsOutputAfter first a.order a.schema a.queries events bytes

-- The sink took the answers over events, and what the source was tells which these are.
pub record WroteOverFrom (first : ℕ) (a : RunRequest) (source : Option (List ℕ)) (Are : List ℕ → List StreamEvent → Type 0) (old new : Option (List ℕ)) : Type 0 where
  pub events : List StreamEvent
  pub bytes : List ℕ
  pub output : IsOutputAfter first a.order a.schema a.queries events bytes
  pub took : TookAll old new bytes
  pub are : (lines : List ℕ) → source ≡ Some lines → Are lines events

-- The sink took a part of bytes, and where the source told its own, these are the answers over its events.
pub record WrotePartBy (Takes : List ℕ → List StreamEvent → RunStop → Type 0) (first : ℕ) (a : RunRequest) (source : Option (List ℕ)) (Took : List ℕ → Type 0) : Type 0 where
  pub bytes : List ℕ
  pub took : Took bytes
  pub are : (lines : List ℕ) → source ≡ Some lines → AreAnswersBy Takes first a lines bytes

-- The engine stands for exactly the events of a file of these bytes, which is read to its end. It was compacted where that was due, and its nodes follow the windows; these were its peaks before. Where its queries are compacted as they grow, each is kept small.
pub record StandsForTaken (Takes : List ℕ → List StreamEvent → RunStop → Type 0) (timing : Timing) (peaks : ℕ → ℕ) (lines : List ℕ) (engine : EngineState) : Type 0 where
  pub events : List StreamEvent
  pub runs : Takes lines events stop.End
  pub stands : StandsFor engine events
  pub windows : FollowsWindowsBy (due_by timing) peaks (last_of (due_by timing) (length events)) events engine
  pub keeps_up : WithNoNumber timing.every (KeepsUp engine events)

-- all answers up to the stop; those over what was read, by what is left; a proper part after a fault of the sink; a first part where memory ran out
abbrev pub said_by : (List ℕ → List StreamEvent → RunStop → Type 0) → (Option (List ℕ) → List ℕ → List StreamEvent → Type 0) → ℕ → RunRequest → Option (List ℕ) → Option (List ℕ) → Option (List ℕ) → EndClaims
said_by Takes Read first a source old new = record {
  stops = λ halt. WroteOverFrom first a source (λ lines events. Takes lines events halt) old new;
  unread = λ left. WroteOverFrom first a source (Read left) old new;
  unwritten = WrotePartBy Takes first a source (TookPart old new);
  wants = WrotePartBy Takes first a source (TookPrefix old new);
}

-- OVER A FILE WHOSE EVENTS COME AFTER OTHERS
-- `earlier` are events that came before and whose answers are not asked for; `events` are these and then those of the file.

abbrev pub WroteOverAfter : List StreamEvent → RunRequest → Option (List ℕ) → (List ℕ → List StreamEvent → Type 0) → Option (List ℕ) → Option (List ℕ) → Type 0
WroteOverAfter earlier a source Are old new = WroteOverFrom (length earlier) a source Are old new

abbrev pub StandsForAllAfter : Timing → (ℕ → ℕ) → List StreamEvent → RunRequest → List ℕ → EngineState → Type 0
StandsForAllAfter timing peaks earlier a lines engine = StandsForTaken (RunsAfter earlier a.schema a.queries a.most_bytes) timing peaks lines engine

-- it took those over all events that the queries take, which stop so
abbrev pub WroteAllAfter : List StreamEvent → RunRequest → Option (List ℕ) → RunStop → Option (List ℕ) → Option (List ℕ) → Type 0
WroteAllAfter earlier a source stop old new =
    WroteOverAfter earlier a source (λ lines events. RunsAfter earlier a.schema a.queries a.most_bytes lines events stop) old new

abbrev pub WrotePartOfAfter : List StreamEvent → RunRequest → Option (List ℕ) → (List ℕ → Type 0) → Type 0
WrotePartOfAfter earlier a source Took = WrotePartBy (RunsAfter earlier a.schema a.queries a.most_bytes) (length earlier) a source Took

abbrev pub answers_said : List StreamEvent → RunRequest → Option (List ℕ) → Option (List ℕ) → Option (List ℕ) → EndClaims
answers_said earlier a source old new =
    said_by (RunsAfter earlier a.schema a.queries a.most_bytes) (λ left lines events. AreEventsReadAfter earlier a.schema a.queries a.most_bytes lines left events) (length earlier) a source old new

abbrev pub WroteStreamAfter : List StreamEvent → RunRequest → Option (List ℕ) → Option (List ℕ) → Option (List ℕ) → Option (List ℕ) → {T : Type 0} → Result T (OrMemory StreamFault) → Type 0
WroteStreamAfter earlier a source left old new result = ByEnd (answers_said earlier a source old new) left result

-- WITH NO EVENT BEFORE

-- The sink took the answers over these events, and what the source was tells which these are.
abbrev pub WroteOver : RunRequest → Option (List ℕ) → (List ℕ → List StreamEvent → Type 0) → Option (List ℕ) → Option (List ℕ) → Type 0
WroteOver a source Are old new = WroteOverAfter [] a source Are old new

-- The engine stands for exactly the events that the queries take of a file of these bytes, which is read to its end. It was compacted after every so many of them, and its nodes follow the windows; these were its peaks before. Without such a number its queries are kept small.
abbrev pub StandsForAll : Option ℕ → (ℕ → ℕ) → RunRequest → List ℕ → EngineState → Type 0
StandsForAll every peaks a lines engine = StandsForAllAfter (record { every = every; first = 0 }) peaks [] a lines engine

abbrev pub WroteAll : RunRequest → Option (List ℕ) → RunStop → Option (List ℕ) → Option (List ℕ) → Type 0
WroteAll a source stop old new = WroteAllAfter [] a source stop old new

-- all answers up to the stop, or those over what was read, or a part of them
abbrev pub WroteStream : RunRequest → Option (List ℕ) → Option (List ℕ) → Option (List ℕ) → Option (List ℕ) → {T : Type 0} → Result T (OrMemory StreamFault) → Type 0
WroteStream a source left old new result = WroteStreamAfter [] a source left old new result
