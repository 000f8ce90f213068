-- What has been written of the answers over late events, by how it ended.
use Rattle.std.specs.Prelude.{ℕ, List, [], Option, Some, None, Result}
use Rattle.cer_base.specs.declared.OrMemory.{OrMemory}
use Rattle.stream_schema.specs.declared.Event.{Event as StreamEvent}
use Rattle.cel_terms.specs.declared.Query.{Query}
use Rattle.event_reader.specs.LineReaders.{IsCutOff}
use Rattle.query_engine.specs.Engine.{EngineState}
use Rattle.event_run.specs.Runs as stop
use Rattle.reorder_gate.specs.Releasing.{released}
use Rattle.stream_answers.specs.declared.StreamFault.{StreamFault}
use Rattle.stream_answers.specs.declared.RunOptions.{RunOptions}
use Rattle.stream_answers.specs.RunEnds.{EndClaims, ByEnd}
use Rattle.stream_answers.specs.Streams.{RunRequest, StandsForTaken, said_by}
use Rattle.command_reorder.specs.Late.{NumberedEvent, LateRequest, Feed, feed_for, TakesOn, RunsLate, AreFed}

-- what is asked of the answers, but for the clock
abbrev pub asked : LateRequest → RunRequest
asked a = record { order = a.order; schema = a.schema; queries = a.queries; most_bytes = a.most_bytes }

-- what is asked of the late events of an engine's queries, by the options of a run, the name of the clock and by how much an event may come late
abbrev pub feed_by : RunOptions → List ℕ → ℕ → EngineState → LateRequest
feed_by options clock late engine = record { order = options.order; schema = engine.schema; queries = engine.queries; clock = clock; late = late; most_bytes = options.most_bytes }

-- The engine stands for exactly the events that the queries take of a file of these bytes, in their order. It was compacted after every so many of them, and its nodes follow the windows; these were its peaks before. Without such a number its queries are kept small.
abbrev pub StandsForLate : Option ℕ → (ℕ → ℕ) → LateRequest → List ℕ → EngineState → Type 0
StandsForLate every peaks a lines engine = StandsForTaken (RunsLate a) (record { every = every; first = 0 }) peaks lines engine

-- All lines that end among the bytes that are no longer left are good, and first lines of the file, none too long and none past the bytes that it may have;
-- after the earlier events come those of them before which none can come that is not too late, in their order, and with none of them a clock falls.
pub record AreReleasedBefore (f : Feed) (queries : List Query) (earlier : List StreamEvent) (bytes rest : List ℕ) (events : List StreamEvent) : Type 0 where
  pub texts : List (List ℕ)
  pub cut : IsCutOff f.most_bytes bytes rest texts
  pub put : List NumberedEvent
  pub good : AreFed f texts put
  pub taken : TakesOn f.schema queries earlier (released f.clock f.late put) stop.End events stop.End

-- the same of a source that tells what it has left
abbrev pub ReadsFed : Feed → List Query → List StreamEvent → Option (List ℕ) → List ℕ → List StreamEvent → Type 0
ReadsFed f queries earlier None bytes events = ⊥
ReadsFed f queries earlier (Some rest) bytes events = AreReleasedBefore f queries earlier bytes rest events

abbrev pub AreReleasedRead : LateRequest → Option (List ℕ) → List ℕ → List StreamEvent → Type 0
AreReleasedRead a left bytes events = ReadsFed (feed_for a) a.queries [] left bytes events

-- all answers up to the stop; those over what the lines that were read released; a proper part after a fault of the sink; a first part where memory ran out
abbrev pub late_said : LateRequest → Option (List ℕ) → Option (List ℕ) → Option (List ℕ) → EndClaims
late_said a source before after = said_by (RunsLate a) (AreReleasedRead a) 0 (asked a) source before after

abbrev pub WroteLate : LateRequest → Option (List ℕ) → Option (List ℕ) → Option (List ℕ) → Option (List ℕ) → {T : Type 0} → Result T (OrMemory StreamFault) → Type 0
WroteLate a source left before after result = ByEnd (late_said a source before after) left result
