-- What a service gives for lines that are fed one after another, each pulled until nothing is left.
use Rattle.std.specs.Prelude.{◌≡◌, ℕ, List, [], ◌∷◌, length, map, flat_map, Some, None, Result, Ok, Err}
use Rattle.cer_base.specs.declared.Memory.{Memory as NoMemory}
use Rattle.cer_base.specs.declared.OrMemory.{OrMemory}
use Rattle.stream_schema.specs.declared.Event.{Event}
use Rattle.ceql_parser.specs.QueryTexts.{IsAnswerOfText}
use Rattle.ceql_parser.specs.QueryTrees.{query_tree}
use Rattle.query_engine.specs.Engine.{StandsFor}
use Rattle.event_run.specs.Runs.{AreEventsOf}
use Rattle.answer_text.specs.declared.Order.TheVariants.{Walk}
use Rattle.answer_text.specs.OutputRows.{Row, AreOutputRows}
use Rattle.core_service.specs.declared.Fed.{Fed}
use Rattle.core_service.specs.declared.Refused.{Refused}
use Rattle.core_service.specs.declared.AnswerNumbers.{AnswerNumbers}
use Rattle.core_service.specs.Answering.{AreLeft, NoneIsLeft, row_of}
use Rattle.core_service.specs.Compacting.{IsCompacted}
use Rattle.core_service.specs.ManyLines.{AreQuiet}
use Rattle.core_service.specs.Services.{ServiceState, IsOpened, IsFed, IsAnswered}
use Rattle.core_service.specs.HeldCalls.{LeavesAnswers}

-- Answers were asked for until none was left, and these rows were given; where memory ran out, the caller asked again, and where none was left it need not ask. Compactions and calls on held cursors may come between, and such calls after it.
pub data IsEmptied : ServiceState → List Row → ServiceState → Type 0 where
  unasked : {old new : ServiceState} {given : List Row} → given ≡ [] → new ≡ old → NoneIsLeft old.engine old.answers → IsEmptied old given new
  over : {old new : ServiceState} {given : List Row} → given ≡ [] → IsAnswered old new (Ok None) → IsEmptied old given new
  one : {old new last : ServiceState} {given : List Row} (numbers : AnswerNumbers) (later : List Row) → given ≡ row_of numbers new.answers.positions ∷ later
      → IsAnswered old new (Ok (Some numbers)) → IsEmptied new later last → IsEmptied old given last
  compacted : {old new last : ServiceState} {given : List Row} → IsCompacted old new → IsEmptied new given last → IsEmptied old given last
  beside : {old new last : ServiceState} {given : List Row} → LeavesAnswers old new → IsEmptied new given last → IsEmptied old given last
  after : {old new last : ServiceState} {given : List Row} → IsEmptied old given new → LeavesAnswers new last → IsEmptied old given last
  again : {old new last : ServiceState} {given : List Row} (refused : NoMemory) → IsAnswered old new (Err refused) → IsEmptied new given last → IsEmptied old given last

-- A line, what became of it, and the rows that were given then.
pub record Turn : Type 0 where
  pub line : List ℕ
  pub result : Result Fed (OrMemory Refused)
  pub given : List Row

-- the line was fed, and then answers were asked for until none was left
abbrev pub IsTurn : Turn → ServiceState → ServiceState → Type 0
IsTurn turn old new = (fed : ServiceState) × IsFed turn.line old fed turn.result × IsEmptied fed turn.given new

-- these turns were made one after the other
abbrev pub AreTurns : List Turn → ServiceState → ServiceState → Type 0
AreTurns [] old new = new ≡ old
AreTurns (turn ∷ turns) old new = (middle : ServiceState) × IsTurn turn old middle × AreTurns turns middle new

-- the line, if it was taken
abbrev pub line_taken : List ℕ → Result Fed (OrMemory Refused) → List (List ℕ)
line_taken line (Ok fed) = line ∷ []
line_taken line (Err stop) = []

-- the lines that were taken
abbrev pub lines_taken : List Turn → List (List ℕ)
lines_taken turns = flat_map (λ (turn : Turn). line_taken turn.line turn.result) turns

-- all rows that were given
abbrev pub rows_given : List Turn → List Row
rows_given turns = flat_map (λ (turn : Turn). turn.given) turns

-- The service serves the text's queries over the events of these lines, and these are exactly the rows of the queries over these events, position by position and query by query, each once.
pub record HasServed (text : List ℕ) (lines : List (List ℕ)) (rows : List Row) (service : ServiceState) : Type 0 where
  pub accepted : IsAnswerOfText text (Ok (service.engine.schema, map query_tree service.engine.queries))
  pub events : List Event
  pub are_events : AreEventsOf service.engine.schema service.engine.queries lines events
  pub stands : StandsFor service.engine events
  pub rows_are : AreOutputRows Walk service.engine.schema service.engine.queries events rows
  pub numbered : service.lines ≡ length lines

-- After turns from a service that was opened, the rows that were given are those over the lines that were taken.
abbrev pub ServicesGiveAllRows : Type 0
ServicesGiveAllRows = (text : List ℕ) (opened last : ServiceState) (turns : List Turn) → IsOpened text opened → AreTurns turns opened last →
    HasServed text (lines_taken turns) (rows_given turns) last

-- Whatever was asked before, some rows are left, if no more than none.
abbrev pub SomeRowsAreLeft : Type 0
SomeRowsAreLeft = (service : ServiceState) (events : List Event) → (rows : List Row) × AreLeft service.engine service.answers events rows

-- Lines that were taken together, after whose events no answer is left, are turns in which none was given.
abbrev pub QuietLinesAreTurns : Type 0
QuietLinesAreTurns = (lines : List (List ℕ)) (old new : ServiceState) → NoneIsLeft old.engine old.answers → AreQuiet lines old new →
    NoneIsLeft new.engine new.answers × ((turns : List Turn) × AreTurns turns old new × (lines_taken turns ≡ lines) × (rows_given turns ≡ []))
