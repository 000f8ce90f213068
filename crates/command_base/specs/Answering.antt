-- What a command makes of its query file and its event file that writes the answers over events.
use Rattle.std.specs.Prelude.{◌≡◌, ◌≢◌, ℕ, ◌⊎◌, Bool, true, List, Option, Some, None, IsSomeAnd}
use Rattle.cer_outside.specs.Content.{Content, Missing, Holds}
use Rattle.cer_outside.specs.Bytes.{TookAll, TookPart}
use Rattle.answer_blocks.specs.SinkBytes.{TookPrefix}
use Rattle.answer_text.specs.declared.Order.{Order}
use Rattle.answer_text.specs.Output.{IsOutput}
use Rattle.stream_schema.specs.Types.{Declared}
use Rattle.stream_schema.specs.declared.Event.{Event}
use Rattle.cel_terms.specs.declared.Query.{Query}
use Rattle.query_engine.specs.Engine.{EngineState}
use Rattle.event_run.specs.Runs.{RunStop}
use Rattle.stream_answers.specs.RunEnds.{EndClaims}
use Rattle.stream_answers.specs.Streams.{RunRequest, StandsForTaken, said_by}
use Rattle.stream_answers.specs.Steps.{CountsTaken, CountsAtFaultBy}
use Rattle.command_base.specs.Accepted.{Accepts}
use Rattle.command_base.specs.StepCounts.{Counts, counts_of_files}
use Rattle.command_base.specs.Tasks.{Task}

-- The names of its files; the clock that each declared type must have, where it asks for one, and whether a schema has it; how lines are ordered, after how many events the engine is compacted, where that is asked for, and how many bytes are too many.
-- `takes schema queries lines events stop`: the queries take these events of a file of these bytes, and stop so. `read schema queries left lines events`: these are the events that it gives whose source failed, which has this left.
pub record Answering : Type 1 where
  pub queries : List ℕ
  pub events : List ℕ
  pub clock : Option (List ℕ)
  pub fits : Declared → Bool
  pub order : Order
  pub every : Option ℕ
  pub most_bytes : ℕ
  pub takes : Declared → List Query → List ℕ → List Event → RunStop → Type 0
  pub read : Declared → List Query → Option (List ℕ) → List ℕ → List Event → Type 0

-- what is asked of the engine
abbrev pub asked_of : Answering → Declared → List Query → RunRequest
asked_of w schema queries = record { order = w.order; schema = schema; queries = queries; most_bytes = w.most_bytes }

-- The bytes are the answers of the text's queries over the events that they take of the file, where they stop so.
pub record AreAnswers (w : Answering) (text lines : List ℕ) (stop : RunStop) (bytes : List ℕ) : Type 0 where
  pub schema : Declared
  pub queries : List Query
  pub events : List Event
  pub accepted : Accepts text schema queries
  pub fits : w.fits schema ≡ true
  pub runs : w.takes schema queries lines events stop
  pub output : IsOutput w.order schema queries events bytes

-- The bytes are the answers over the events that the file gives of which these bytes are left.
pub record AreAnswersSoFar (w : Answering) (text lines rest : List ℕ) (bytes : List ℕ) : Type 0 where
  pub schema : Declared
  pub queries : List Query
  pub events : List Event
  pub accepted : Accepts text schema queries
  pub fits : w.fits schema ≡ true
  pub read : w.read schema queries (Some rest) lines events
  pub output : IsOutput w.order schema queries events bytes

-- The host lacks neither file, and where it tells their bytes, these are the answers to them, with a stop that passes.
pub record AreFileAnswers (content : List ℕ → Content) (w : Answering) (Passes : RunStop → Type 0) (bytes : List ℕ) : Type 0 where
  pub has_queries : content w.queries ≢ Missing
  pub has_events : content w.events ≢ Missing
  pub answers : (text lines : List ℕ) → content w.queries ≡ Holds text → content w.events ≡ Holds lines
      → (stop : RunStop) × Passes stop × AreAnswers w text lines stop bytes

-- The host lacks neither file, and where it tells their bytes, these are the answers over what the event file gives of which a source, which failed, has this left.
pub record AreReadAnswers (content : List ℕ → Content) (w : Answering) (left : Option (List ℕ)) (bytes : List ℕ) : Type 0 where
  pub has_queries : content w.queries ≢ Missing
  pub has_events : content w.events ≢ Missing
  pub answers : (text lines rest : List ℕ) → content w.queries ≡ Holds text → content w.events ≡ Holds lines → left ≡ Some rest
      → AreAnswersSoFar w text lines rest bytes

-- What the output has taken, from before to after: all answers up to the stop, or those over what was read; a proper first part where a write failed; and a first part or nothing where memory ran out.
abbrev pub answering_said : Answering → (List ℕ → Content) → Option (List ℕ) → Option (List ℕ) → EndClaims
answering_said w content before after = record {
  stops = λ halt. (bytes : List ℕ) × AreFileAnswers content w (λ s. s ≡ halt) bytes × TookAll before after bytes;
  unread = λ left. (bytes : List ℕ) × AreReadAnswers content w left bytes × TookAll before after bytes;
  unwritten = (bytes : List ℕ) × AreFileAnswers content w (λ s. Unit {0}) bytes × TookPart before after bytes;
  wants = (after ≡ before) ⊎ ((bytes : List ℕ) × AreFileAnswers content w (λ s. Unit {0}) bytes × TookPrefix before after bytes);
}

-- what it is to the program
abbrev pub answering_task : Answering → Task
answering_task w = record {
  queries = w.queries;
  checkpoint = None;
  events = w.events;
  clock = w.clock;
  fits = w.fits;
  stops = λ schema queries kept lines halt. (events : List Event) × w.takes schema queries lines events halt;
  said = answering_said w;
}

-- what is said of its end over a source
abbrev pub source_said : Answering → Declared → List Query → Option (List ℕ) → Option (List ℕ) → Option (List ℕ) → EndClaims
source_said w schema queries source before after = said_by (w.takes schema queries) (w.read schema queries) 0 (asked_of w schema queries) source before after

-- The steps are bounded by the events of the whole file, their answers and the compactions; after a write that failed in walk order, events and answers end with the one whose line was not written.
abbrev pub answering_counts : Answering → Declared → List Query → List ℕ → Counts
answering_counts w schema queries lines = record {
  all = λ Stops Took old now. CountsTaken (w.takes schema queries) (record { every = w.every; first = 0 }) 0 (asked_of w schema queries) lines Stops Took old now;
  at_fault = λ before after old now. CountsAtFaultBy (w.takes schema queries) (record { every = w.every; first = 0 }) 0 w.order (asked_of w schema queries) lines before after old now;
}

-- those over the bytes of the two files
abbrev pub answering_steps : Answering → (List ℕ → Content) → Counts
answering_steps w content = counts_of_files content w.queries w.events (answering_counts w)

-- the engine over the events of the file, with these peaks before
abbrev pub StandsForLines : Answering → Declared → List Query → (ℕ → ℕ) → List ℕ → EngineState → Type 0
StandsForLines w schema queries peaks lines engine = StandsForTaken (w.takes schema queries) (record { every = w.every; first = 0 }) peaks lines engine

-- Where the host tells both files, the engine is of the schema and the queries of the query text, and stands for exactly the events that these take of the event file, which is read to its end. It was compacted after every so many of them, where that was asked for, and its nodes follow the windows; before any event it had none. Where no number was asked for, each of its queries is kept small.
pub record StandsForFile (content : List ℕ → Content) (w : Answering) (engine : EngineState) : Type 0 where
  pub told : (text lines : List ℕ) → content w.queries ≡ Holds text → content w.events ≡ Holds lines →
      Accepts text engine.schema engine.queries × StandsForLines w engine.schema engine.queries (λ query. 0) lines engine

-- an engine is left where all was well, and it stands for the files
abbrev pub answering_leaves : Answering → (List ℕ → Content) → Option EngineState → Type 0
answering_leaves w content left = IsSomeAnd left (StandsForFile content w)
