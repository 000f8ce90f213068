-- What the calls on held cursors promise.
use Rattle.std.specs.Prelude.{◌≡◌, ℕ, ◌<◌, Bool, true, false, [], ◌∷◌, length, Option, Some, None, Result, Ok, Err}
use Rattle.query_engine.specs.Engine.{IsNumber, count_of}
use Rattle.core_service.specs.declared.AnswerNumbers.{AnswerNumbers}
use Rattle.core_service.specs.declared.HoldFault.{HoldFault}
use Rattle.core_service.specs.declared.HoldFault.TheVariants.{NoQuery, NoEventYet, TooMany, Memory}
use Rattle.core_service.specs.declared.HeldFault.{HeldFault}
use Rattle.core_service.specs.declared.HeldFault.TheVariants as held
use Rattle.core_service.specs.declared.marks.TheConstants.{MOST_HELD}
use Rattle.core_service.specs.Answering.{row_of}
use Rattle.core_service.specs.Holding.{HeldRows, rows_left, held_rows, AddsHeld, ChangesHeld, DropsHeld, HasGivenDrawn, AreRowsOfQuery}
use Rattle.core_service.specs.Services.{ServiceState}

-- The service serves the same, and the same answers are left at the last position; the positions of the answer that was looked at last may be others.
pub record LeavesAnswers (old new : ServiceState) : Type 0 where
  pub engine : new.engine ≡ old.engine
  pub lines : new.lines ≡ old.lines
  pub answers : new.answers ≡ record old.answers { positions = new.answers.positions }

-- The query has the number, and some event was taken.
pub record CanBeHeld (query : ℕ) (service : ServiceState) : Type 0 where
  pub numbered : IsNumber service.engine query
  pub seen : 0 < count_of service.engine

-- A cursor of this number is held over all answers of the query at the last position.
pub record OpensHeld (query number : ℕ) (old new : ServiceState) : Type 0 where
  pub can : CanBeHeld query old
  pub leaves : LeavesAnswers old new
  pub rows : HeldRows
  pub adds : AddsHeld old.engine number old.held new.held rows
  pub none_drawn : rows.drawn ≡ []
  pub are : AreRowsOfQuery old.engine query rows.later

-- why no cursor is held, the first of these
abbrev pub IsHoldFault : ℕ → ServiceState → HoldFault → Type 0
IsHoldFault query service NoQuery = IsNumber service.engine query → ⊥
IsHoldFault query service NoEventYet = IsNumber service.engine query × (count_of service.engine ≡ 0)
IsHoldFault query service TooMany = CanBeHeld query service × (length service.held.marks ≡ MOST_HELD)
IsHoldFault query service Memory = CanBeHeld query service × (length service.held.marks < MOST_HELD)

-- What became of a call to hold a cursor over the answers of the query: one is held, of this number; or none, and nothing has changed.
abbrev pub IsHeld : ℕ → ServiceState → ServiceState → Result ℕ HoldFault → Type 0
IsHeld query old new (Ok number) = OpensHeld query number old new
IsHeld query old new (Err fault) = (new ≡ old) × IsHoldFault query old fault

-- The cursor of this number had the first rows left, and has the second ones now; the others have the same left, and so has the last position.
pub record GoesOn (number : ℕ) (old new : ServiceState) (before now : HeldRows) : Type 0 where
  pub leaves : LeavesAnswers old new
  pub changes : ChangesHeld old.engine number old.held new.held before now

-- No cursor of this number is held, and nothing has changed.
pub record IsNotHeld (number : ℕ) (old new : ServiceState) : Type 0 where
  pub stays : new ≡ old
  pub none : held_rows old.engine old.held number ≡ None

-- The cursor has the same left.
pub record StaysHeld (number : ℕ) (old new : ServiceState) : Type 0 where
  pub before : HeldRows
  pub now : HeldRows
  pub goes : GoesOn number old new before now
  pub left : rows_left now ≡ rows_left before

-- The cursor has the same left, and the numbers are those of the first of these, which is drawn.
pub record ShowsHeld (number : ℕ) (old new : ServiceState) (numbers : AnswerNumbers) : Type 0 where
  pub stays : StaysHeld number old new
  pub drawn : stays.now.drawn ≡ row_of numbers new.answers.positions ∷ []
  pub count : numbers.count ≡ length new.answers.positions

-- The cursor had nothing left, and has nothing left.
pub record IsOver (number : ℕ) (old new : ServiceState) : Type 0 where
  pub stays : StaysHeld number old new
  pub over : rows_left stays.now ≡ []

-- What a look at the next answer of a held cursor made: the same are left of it.
abbrev pub IsPeeked : ℕ → ServiceState → ServiceState → Result (Option AnswerNumbers) HeldFault → Type 0
IsPeeked number old new (Ok (Some numbers)) = ShowsHeld number old new numbers
IsPeeked number old new (Ok None) = IsOver number old new
IsPeeked number old new (Err held.NotHeld) = IsNotHeld number old new
IsPeeked number old new (Err held.Memory) = StaysHeld number old new

-- The cursor gave its next answer, which has these numbers.
pub record GivesHeld (number : ℕ) (old new : ServiceState) (numbers : AnswerNumbers) : Type 0 where
  pub before : HeldRows
  pub now : HeldRows
  pub goes : GoesOn number old new before now
  pub gives : rows_left before ≡ row_of numbers new.answers.positions ∷ rows_left now
  pub count : numbers.count ≡ length new.answers.positions

-- What a call for the next answer of a held cursor made.
abbrev pub IsPulled : ℕ → ServiceState → ServiceState → Result (Option AnswerNumbers) HeldFault → Type 0
IsPulled number old new (Ok (Some numbers)) = GivesHeld number old new numbers
IsPulled number old new (Ok None) = IsOver number old new
IsPulled number old new (Err held.NotHeld) = IsNotHeld number old new
IsPulled number old new (Err held.Memory) = StaysHeld number old new

-- The answer that was drawn from the held cursor, if one was, is given.
pub record AdvancesHeld (number : ℕ) (old new : ServiceState) : Type 0 where
  pub leaves : LeavesAnswers old new
  pub given : HasGivenDrawn old.engine number old.held new.held

-- whether a cursor of this number is held
abbrev pub IsAdvanced : ℕ → ServiceState → ServiceState → Bool → Type 0
IsAdvanced number old new true = AdvancesHeld number old new
IsAdvanced number old new false = IsNotHeld number old new

-- The held cursor goes.
pub record LetsGo (number : ℕ) (old new : ServiceState) : Type 0 where
  pub leaves : LeavesAnswers old new
  pub drops : DropsHeld old.engine number old.held new.held

-- whether a cursor of this number was held
abbrev pub IsLetGo : ℕ → ServiceState → ServiceState → Bool → Type 0
IsLetGo number old new true = LetsGo number old new
IsLetGo number old new false = IsNotHeld number old new
