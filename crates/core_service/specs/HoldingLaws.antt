-- What a held cursor gives in all, whatever is asked of the service between.
use Rattle.std.specs.Prelude.{◌≡◌, ℕ, ◌-◌, Bool, List, [], ◌∷◌, ◌++◌, length, map, Option, Some, None, slice_get, Result, Ok, Err}
use Rattle.cer_base.specs.declared.Memory.{Memory as NoMemory}
use Rattle.cer_base.specs.declared.OrMemory.{OrMemory}
use Rattle.stream_schema.specs.declared.Event.{Event}
use Rattle.cel_terms.specs.declared.Query.{Query}
use Rattle.cel_terms.specs.Answers.{Answer, AreAnswersAt}
use Rattle.answer_text.specs.OutputRows.{Row, row_at}
use Rattle.core_service.specs.declared.AnswerNumbers.{AnswerNumbers}
use Rattle.core_service.specs.declared.Fed.{Fed}
use Rattle.core_service.specs.declared.FedSome.{FedSome}
use Rattle.core_service.specs.declared.HeldFault.{HeldFault}
use Rattle.core_service.specs.declared.HoldFault.{HoldFault}
use Rattle.core_service.specs.declared.Refused.{Refused}
use Rattle.core_service.specs.Answering.{row_of}
use Rattle.core_service.specs.Holding.{HeldRows, rows_left, held_rows}
use Rattle.core_service.specs.Services.{ServiceState, IsFed, IsLooked, IsAnswered, GivesDrawn}
use Rattle.core_service.specs.ManyLines.{HasFedSome}
use Rattle.core_service.specs.Compacting.{IsCompacted}
use Rattle.core_service.specs.HeldCalls.{IsHeld, IsPeeked, IsPulled, IsAdvanced, IsLetGo, OpensHeld, AdvancesHeld}
use Rattle.core_service.specs.Serving.{HasServed}

-- the row that a pull gave, if it gave one, whose positions are these
abbrev pub row_pulled : List ℕ → Result (Option AnswerNumbers) HeldFault → List Row
row_pulled positions (Ok (Some numbers)) = row_of numbers positions ∷ []
row_pulled positions (Ok None) = []
row_pulled positions (Err fault) = []

-- One call of a service that holds a cursor of this number, and the rows that this cursor gave in it: any call but that which drops it.
pub data IsCall (number : ℕ) : ServiceState → List Row → ServiceState → Type 0 where
  pulled : {old new : ServiceState} {given : List Row} (result : Result (Option AnswerNumbers) HeldFault) → given ≡ row_pulled new.answers.positions result → IsPulled number old new result → IsCall number old given new
  advanced : {old new : ServiceState} {given : List Row} (advances : AdvancesHeld number old new) → given ≡ advances.given.before.drawn → IsCall number old given new
  peeked : {old new : ServiceState} {given : List Row} (cursor : ℕ) (result : Result (Option AnswerNumbers) HeldFault) → given ≡ [] → IsPeeked cursor old new result → IsCall number old given new
  pulled_other : {old new : ServiceState} {given : List Row} (other : ℕ) (result : Result (Option AnswerNumbers) HeldFault) → given ≡ [] → (other ≡ number → ⊥) → IsPulled other old new result → IsCall number old given new
  advanced_other : {old new : ServiceState} {given : List Row} (other : ℕ) (found : Bool) → given ≡ [] → (other ≡ number → ⊥) → IsAdvanced other old new found → IsCall number old given new
  dropped_other : {old new : ServiceState} {given : List Row} (other : ℕ) (found : Bool) → given ≡ [] → (other ≡ number → ⊥) → IsLetGo other old new found → IsCall number old given new
  held : {old new : ServiceState} {given : List Row} (query : ℕ) (result : Result ℕ HoldFault) → given ≡ [] → IsHeld query old new result → IsCall number old given new
  fed : {old new : ServiceState} {given : List Row} (line : List ℕ) (result : Result Fed (OrMemory Refused)) → given ≡ [] → IsFed line old new result → IsCall number old given new
  fed_some : {old new : ServiceState} {given : List Row} (bytes : List ℕ) (result : FedSome) → given ≡ [] → HasFedSome bytes old new result → IsCall number old given new
  looked : {old new : ServiceState} {given : List Row} (result : Result (Option AnswerNumbers) NoMemory) → given ≡ [] → IsLooked old new result → IsCall number old given new
  answered : {old new : ServiceState} {given : List Row} (result : Result (Option AnswerNumbers) NoMemory) → given ≡ [] → IsAnswered old new result → IsCall number old given new
  gave_drawn : {old new : ServiceState} {given : List Row} → given ≡ [] → GivesDrawn old new → IsCall number old given new
  compacted : {old new : ServiceState} {given : List Row} → given ≡ [] → IsCompacted old new → IsCall number old given new
  unchanged : {old new : ServiceState} {given : List Row} → given ≡ [] → new ≡ old → IsCall number old given new

-- these calls were made one after the other, and the cursor gave these rows in them
pub data AreCalls (number : ℕ) : ServiceState → List Row → ServiceState → Type 0 where
  none : {old new : ServiceState} {given : List Row} → given ≡ [] → new ≡ old → AreCalls number old given new
  one : {old new : ServiceState} {given : List Row} (middle : ServiceState) (front later : List Row) → given ≡ front ++ later → IsCall number old front middle → AreCalls number middle later new → AreCalls number old given new

-- These are the rows of the query of this number at the last position of a service over these events, each once.
pub record AreRowsHeld (service : ServiceState) (events : List Event) (query : ℕ) (rows : List Row) : Type 0 where
  pub q : Query
  pub numbered : slice_get service.engine.queries (query - 1) ≡ Some q
  pub answers : List Answer
  pub are_answers : AreAnswersAt service.engine.schema q events (length events - 1) answers
  pub are : rows ≡ map (row_at query (length events - 1)) answers

-- What the cursor has given, and what it has left behind that, are the rows of its query at the position where it was opened.
pub record HasGiven (opened last : ServiceState) (events : List Event) (query number : ℕ) (given : List Row) : Type 0 where
  pub left : HeldRows
  pub here : held_rows last.engine last.held number ≡ Some left
  pub rows : AreRowsHeld opened events query (given ++ rows_left left)

-- A cursor that was opened where a service had served lines has given, whatever was asked of the service since, first rows of its query over the events of these lines, and has the others left.
abbrev pub HeldCursorsKeepAllRows : Type 0
HeldCursorsKeepAllRows = (text : List ℕ) (lines : List (List ℕ)) (rows given : List Row) (service opened last : ServiceState) (query number : ℕ) (served : HasServed text lines rows service) →
    OpensHeld query number service opened → AreCalls number opened given last → HasGiven service last served.events query number given

-- So once it has none left, it has given exactly the rows of its query over the events of these lines, each once.
abbrev pub HeldCursorsGiveAllRows : Type 0
HeldCursorsGiveAllRows = (text : List ℕ) (lines : List (List ℕ)) (rows given : List Row) (service opened last end : ServiceState) (query number : ℕ) (served : HasServed text lines rows service) →
    OpensHeld query number service opened → AreCalls number opened given last → IsPulled number last end (Ok None) → AreRowsHeld service served.events query given
