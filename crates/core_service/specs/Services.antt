-- What contracts see of a service, and what each of its calls promises.
use Rattle.std.specs.Prelude.{◌≡◌, ℕ, ◌+◌, ◌-◌, ◌<◌, ◌≤◌, ◌⊎◌, ◌↔◌, true, false, List, [], ◌∷◌, ◌++◌, length, map, Option, Some, None, Result, Ok, Err}
use Rattle.cer_base.specs.declared.Memory.{Memory as NoMemory}
use Rattle.cer_base.specs.declared.OrMemory.{OrMemory}
use Rattle.cer_base.specs.declared.OrMemory.TheVariants.{Fault, Memory}
use Rattle.cer_base.specs.declared.limits.TheConstants.{LONGEST_LINE}
use Rattle.stream_schema.specs.Types.{Declared}
use Rattle.stream_schema.specs.declared.Event.{Event}
use Rattle.cel_terms.specs.declared.Query.{Query}
use Rattle.ceql_parser.specs.QueryTexts.{IsAnswerOfText}
use Rattle.ceql_parser.specs.QueryTrees.{query_tree}
use Rattle.event_reader.specs.declared.EventFault.{EventFault}
use Rattle.event_reader.specs.declared.EventFault.TheVariants.{LineTooLong}
use Rattle.event_reader.specs.Lines.{has_line_feed}
use Rattle.event_reader.specs.Events.{event_of_line}
use Rattle.query_engine.specs.Clocks.{NoneFallsBack}
use Rattle.query_engine.specs.Engine.{EngineState, StandsFor, SameQueries, KeepsCursors, count_of}
use Rattle.event_run.specs.Taking.{StopsHere}
use Rattle.answer_text.specs.declared.Order.TheVariants.{Walk}
use Rattle.answer_text.specs.OutputRows.{Row, AreRowsAt}
use Rattle.core_service.specs.declared.Fed.{Fed}
use Rattle.core_service.specs.declared.Fed.TheVariants as fed
use Rattle.core_service.specs.declared.Refused.{Refused}
use Rattle.core_service.specs.declared.LineRefusal.{LineRefusal}
use Rattle.core_service.specs.declared.LineRefusal.TheVariants as refusal
use Rattle.core_service.specs.declared.AnswerNumbers.{AnswerNumbers}
use Rattle.core_service.specs.Answering.{AnswersState, AreLeft, Leaves, LeavesDrawn, NoneIsLeft, IsShown, row_of}
use Rattle.core_service.specs.Holding.{HeldState, none_held, SameHeld}

-- A service: its engine, how many lines it has taken, what is left to be given at the last position, and the cursors that are held.
pub record ServiceState : Type 0 where
  pub engine : EngineState
  pub lines : ℕ
  pub answers : AnswersState
  pub held : HeldState

-- The service is that of the text, and took no line: its engine has the schema that the text declares and the queries that it asks, no answer is left, and no cursor is held.
pub record IsOpened (text : List ℕ) (service : ServiceState) : Type 0 where
  pub accepted : IsAnswerOfText text (Ok (service.engine.schema, map query_tree service.engine.queries))
  pub stands : StandsFor service.engine []
  pub lines : service.lines ≡ 0
  pub over : NoneIsLeft service.engine service.answers
  pub held : service.held ≡ none_held

-- The service has the schema and the queries, and took no line: no answer is left, and no cursor is held.
pub record IsNewOf (schema : Declared) (queries : List Query) (service : ServiceState) : Type 0 where
  pub given : (service.engine.schema ≡ schema) × (service.engine.queries ≡ queries)
  pub stands : StandsFor service.engine []
  pub lines : service.lines ≡ 0
  pub over : NoneIsLeft service.engine service.answers
  pub held : service.held ≡ none_held

-- The bytes are one line, without a line feed and not too long.
pub record IsLine (line : List ℕ) : Type 0 where
  pub whole : has_line_feed line ≡ false
  pub short : length line ≤ LONGEST_LINE

-- The line gives this event, with which no clock falls, and the engine stands for one event more.
pub record GivesEvent (line : List ℕ) (old new : EngineState) : Type 0 where
  pub event : Event
  pub read : event_of_line old.schema line ≡ Ok (Some event)
  pub same : SameQueries old new
  pub in_time : (events : List Event) → StandsFor old events → NoneFallsBack old.schema old.queries events event
  pub stands : (events : List Event) → StandsFor old events → StandsFor new (events ++ event ∷ [])
  pub count : count_of new ≡ count_of old + 1

-- the line of this number stops a run over the events so far
abbrev pub StopsRun : List ℕ → EngineState → ℕ → EventFault → Type 0
StopsRun line engine number fault = (events : List Event) → StandsFor engine events → StopsHere engine.schema engine.queries line number events fault

-- What became of a line that was given to an engine: its event, none, a refusal, or want of memory. Private clauses alone cite it.
abbrev pub IsGiven : List ℕ → ℕ → EngineState → EngineState → Result Fed (OrMemory EventFault) → Type 0
IsGiven line number old new (Ok fed.Event) = GivesEvent line old new × KeepsCursors old new
IsGiven line number old new (Ok fed.Nothing) = (event_of_line old.schema line ≡ Ok None) × (new ≡ old)
IsGiven line number old new (Err (Fault fault)) = (new ≡ old) × StopsRun line old number fault
IsGiven line number old new (Err Memory) = new ≡ old

-- The line's event came after all before; the rows at its position are left, and what was left before is dropped. Held cursors have the same left.
pub record TakesEvent (line : List ℕ) (old new : ServiceState) : Type 0 where
  pub one : IsLine line
  pub gives : GivesEvent line old.engine new.engine
  pub lines : new.lines ≡ old.lines + 1
  pub left : (events : List Event) (rows : List Row) → AreLeft new.engine new.answers events rows
      ↔ AreRowsAt Walk new.engine.schema 1 new.engine.queries events (length events - 1) rows
  pub held : SameHeld old.engine new.engine old.held new.held

-- The line is empty but for a carriage return, and is counted; all else stays.
pub record PassesLine (line : List ℕ) (old new : ServiceState) : Type 0 where
  pub one : IsLine line
  pub empty : event_of_line old.engine.schema line ≡ Ok None
  pub stays : new ≡ record old { lines = old.lines + 1 }

-- the line of this number is too long, or stops a run over the events so far
abbrev pub StopsService : List ℕ → ServiceState → ℕ → EventFault → Type 0
StopsService line service number fault =
    ((fault ≡ LineTooLong) × (LONGEST_LINE < length line))
    ⊎ ((length line ≤ LONGEST_LINE) × StopsRun line service.engine number fault)

-- why the line of this number is refused
abbrev pub IsRefusedFor : List ℕ → ServiceState → ℕ → LineRefusal → Type 0
IsRefusedFor line service number refusal.LineFeed = has_line_feed line ≡ true
IsRefusedFor line service number (refusal.Event fault) = (has_line_feed line ≡ false) × StopsService line service number fault

-- The line is refused, as the one after those that were taken, and nothing has changed.
pub record RefusesLine (line : List ℕ) (old new : ServiceState) (refused : Refused) : Type 0 where
  pub stays : new ≡ old
  pub numbered : refused.line ≡ old.lines + 1
  pub why : IsRefusedFor line old refused.line refused.refusal

-- What became of a line: an event was taken, or nothing; it was refused; or memory ran out, and nothing has changed.
abbrev pub IsFed : List ℕ → ServiceState → ServiceState → Result Fed (OrMemory Refused) → Type 0
IsFed line old new (Ok fed.Event) = TakesEvent line old new
IsFed line old new (Ok fed.Nothing) = PassesLine line old new
IsFed line old new (Err (Fault refused)) = RefusesLine line old new refused
IsFed line old new (Err Memory) = new ≡ old

-- The service gave these rows, the first of those that were left, and serves the same events.
pub record Gives (old new : ServiceState) (given : List Row) : Type 0 where
  pub engine : new.engine ≡ old.engine
  pub lines : new.lines ≡ old.lines
  pub leaves : Leaves old.engine old.answers new.answers given
  pub held : new.held ≡ old.held

-- the answer that was drawn is given, and the service serves the same
pub record GivesDrawn (old new : ServiceState) : Type 0 where
  pub engine : new.engine ≡ old.engine
  pub lines : new.lines ≡ old.lines
  pub leaves : LeavesDrawn old.engine old.answers new.answers
  pub held : new.held ≡ old.held

-- What a look made: the same are left, and these are the numbers of the first of them, which is drawn; or none is left.
pub record IsLooked (old new : ServiceState) (result : Result (Option AnswerNumbers) NoMemory) : Type 0 where
  pub gives : Gives old new []
  pub shown : IsShown new.engine new.answers result

-- What a call for the next answer made: it gave the first row that was left; none is left; or memory ran out, and the same are left.
abbrev pub IsAnswered : ServiceState → ServiceState → Result (Option AnswerNumbers) NoMemory → Type 0
IsAnswered old new (Ok (Some numbers)) = Gives old new (row_of numbers new.answers.positions ∷ []) × (numbers.count ≡ length new.answers.positions)
IsAnswered old new (Ok None) = Gives old new [] × NoneIsLeft new.engine new.answers
IsAnswered old new (Err refused) = Gives old new []
