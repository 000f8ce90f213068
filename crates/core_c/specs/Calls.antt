-- What each call leaves: of the service behind an engine, in the words of `core_service`, and of what the caller lent. A status number tells which outcome came.
use Rattle.std.specs.Prelude.{◌≡◌, ℕ, ℤ, ◌<◌, ◌≤◌, true, List, length, Option, Some, None, Result, Ok, Err}
use Rattle.cer_base.specs.declared.Memory.{Memory as NoMemory}
use Rattle.cer_base.specs.declared.OrMemory.{OrMemory}
use Rattle.cer_base.specs.declared.OrMemory.TheVariants.{Fault, Memory}
use Rattle.ceql_grammar.specs.declared.faults.QueryError.{QueryError}
use Rattle.ceql_parser.specs.QueryTexts.{IsAnswerOfText}
use Rattle.query_engine.specs.Engine.{EngineState, IsNumber}
use Rattle.core_service.specs.declared.Fed.{Fed}
use Rattle.core_service.specs.declared.Fed.TheVariants as fed
use Rattle.core_service.specs.declared.FedSome.{FedSome}
use Rattle.core_service.specs.declared.SomeStop.{SomeStop}
use Rattle.core_service.specs.declared.SomeStop.TheVariants as stop
use Rattle.core_service.specs.declared.Refused.{Refused}
use Rattle.core_service.specs.declared.AnswerNumbers.{AnswerNumbers}
use Rattle.core_service.specs.Services.{ServiceState, IsOpened, IsFed, IsLooked, IsAnswered}
use Rattle.core_service.specs.ManyLines.{HasFedSome}
use Rattle.core_service.specs.Compacting.{IsCompacted, AreSizesOf}
use Rattle.core_c.specs.declared.handle.Handle.{Handle}
use Rattle.core_c.specs.declared.engine.CoreEngine.{CoreEngine}
use Rattle.core_c.specs.declared.notes.CoreFault.{CoreFault}
use Rattle.core_c.specs.declared.answers.CoreAnswer.{CoreAnswer}
use Rattle.core_c.specs.declared.keeping.CoreSizes.{CoreSizes}
use Rattle.core_c.specs.declared.status.TheConstants.{OK, NONE, ROOM, QUERY, EVENT, MEMORY, MISUSE}
use Rattle.core_c.specs.Notes.{Told, HasTold, query_told, refusal_told, put_first}

-- The call was a misuse, and the engine is as it was.
pub record IsMisuse (old new : CoreEngine) (status : ℤ) : Type 0 where
  pub told : status ≡ MISUSE
  pub same : new ≡ old

-- The engine is open as before, and has its seed.
pub record StaysOpen (old new : CoreEngine) : Type 0 where
  pub full : new.handle.full ≡ true
  pub low : new.seed_low ≡ old.seed_low
  pub high : new.seed_high ≡ old.seed_high

-- what was made of an empty handle: a service of the text is in it; the text has this fault; or memory ran out
abbrev pub Opens : List ℕ → Handle → Handle → Result ServiceState (OrMemory QueryError) → Type 0
Opens text old new (Ok service) = (new.full ≡ true) × (new.service ≡ service) × IsOpened text service
Opens text old new (Err (Fault error)) = (new ≡ old) × IsAnswerOfText text (Err error)
Opens text old new (Err Memory) = new ≡ old

abbrev pub open_status : Result ServiceState (OrMemory QueryError) → ℤ
open_status (Ok service) = OK
open_status (Err (Fault error)) = QUERY
open_status (Err Memory) = MEMORY

abbrev pub open_told : Result ServiceState (OrMemory QueryError) → Option Told
open_told (Ok service) = None
open_told (Err (Fault error)) = Some (query_told error)
open_told (Err Memory) = None

-- An empty handle was to be given a service of the text.
pub record HasOpened (text : List ℕ) (old new : Handle) (status : ℤ) (fault told : CoreFault) (room words : List ℕ) : Type 0 where
  pub outcome : Result ServiceState (OrMemory QueryError)
  pub opens : Opens text old new outcome
  pub ends : status ≡ open_status outcome
  pub tells : HasTold (open_told outcome) fault told room words

abbrev pub feed_status : Result Fed (OrMemory Refused) → ℤ
feed_status (Ok fed.Event) = OK
feed_status (Ok fed.Nothing) = NONE
feed_status (Err (Fault refused)) = EVENT
feed_status (Err Memory) = MEMORY

abbrev pub feed_told : Result Fed (OrMemory Refused) → Option Told
feed_told (Ok fed) = None
feed_told (Err (Fault refused)) = Some (refusal_told refused)
feed_told (Err Memory) = None

-- The line was fed.
pub record HasFed (line : List ℕ) (old new : ServiceState) (status : ℤ) (fault told : CoreFault) (room words : List ℕ) : Type 0 where
  pub outcome : Result Fed (OrMemory Refused)
  pub fed : IsFed line old new outcome
  pub ends : status ≡ feed_status outcome
  pub tells : HasTold (feed_told outcome) fault told room words

abbrev pub stop_status : SomeStop → ℤ
stop_status stop.MayAnswer = OK
stop_status stop.End = NONE
stop_status (stop.Refused refused) = EVENT
stop_status stop.Memory = MEMORY

abbrev pub stop_told : SomeStop → Option Told
stop_told stop.MayAnswer = None
stop_told stop.End = None
stop_told (stop.Refused refused) = Some (refusal_told refused)
stop_told stop.Memory = None

-- Lines of the bytes were fed, so many bytes of them.
pub record HasFedLines (bytes : List ℕ) (old new : ServiceState) (status : ℤ) (used : ℕ) (fault told : CoreFault) (room words : List ℕ) : Type 0 where
  pub outcome : FedSome
  pub fed : HasFedSome bytes old new outcome
  pub bytes_used : used ≡ outcome.used
  pub ends : status ≡ stop_status outcome.stop
  pub tells : HasTold (stop_told outcome.stop) fault told room words

-- the numbers of an answer
abbrev pub numbers_told : AnswerNumbers → CoreAnswer
numbers_told numbers = record { query = numbers.query; start = numbers.start; end = numbers.end; count = numbers.count }

-- What a call for the next answer made: the answer was given, and the buffer begins with its positions; the buffer is too short for them, and the answer is the next one still; none is left; or memory ran out.
pub data HasAnswered (old new : ServiceState) (status : ℤ) (answer told : CoreAnswer) (room positions : List ℕ) : Type 0 where
  given : (numbers : AnswerNumbers) → status ≡ OK → IsAnswered old new (Ok (Some numbers)) → told ≡ numbers_told numbers
      → numbers.count ≤ length room → positions ≡ put_first new.answers.positions room → HasAnswered old new status answer told room positions
  kept : (numbers : AnswerNumbers) → status ≡ ROOM → IsLooked old new (Ok (Some numbers)) → told ≡ numbers_told numbers
      → length room < numbers.count → positions ≡ room → HasAnswered old new status answer told room positions
  none : status ≡ NONE → IsAnswered old new (Ok None) → told ≡ answer → positions ≡ room → HasAnswered old new status answer told room positions
  wants : (refused : NoMemory) → status ≡ MEMORY → IsAnswered old new (Err refused) → told ≡ answer → positions ≡ room → HasAnswered old new status answer told room positions

-- What a compaction made: what no window reaches is given up; or memory ran out, and nothing has changed.
pub data HasCompacted (old new : ServiceState) (status : ℤ) : Type 0 where
  compacted : status ≡ OK → IsCompacted old new → HasCompacted old new status
  wants : status ≡ MEMORY → new ≡ old → HasCompacted old new status

-- What is told of the query with this number: its sizes; or there is none.
pub data HasSized (engine : EngineState) (query : ℕ) (status : ℤ) (sizes told : CoreSizes) : Type 0 where
  sized : status ≡ OK → IsNumber engine query
      → AreSizesOf engine query (record { events = told.events; queries = told.queries; nodes = told.nodes; peak = told.peak; states = told.states })
      → HasSized engine query status sizes told
  none : status ≡ NONE → (IsNumber engine query → ⊥) → told ≡ sizes → HasSized engine query status sizes told
