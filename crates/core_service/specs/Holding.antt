-- Cursors that a caller holds: what contracts see of them, and which rows each has left. A held cursor is over the answers of one query at the position where it was opened.
use Rattle.std.specs.Prelude.{◌≡◌, ℕ, ◌+◌, ◌-◌, ◌<◌, ◌≤◌, ◌==◌, if◌then◌else◌, List, [], ◌∷◌, ◌++◌, length, map, reverse, Option, Some, None, slice_get}
use Rattle.stream_schema.specs.declared.Event.{Event}
use Rattle.cel_terms.specs.declared.Query.{Query}
use Rattle.cel_terms.specs.Answers.{Answer, AreAnswersAt}
use Rattle.answer_text.specs.OutputRows.{Row, row_at}
use Rattle.query_engine.specs.Engine.{EngineState, Open, StandsFor, rest}
use Rattle.query_engine.specs.Holding.{answer_of}
use Rattle.core_service.specs.declared.AnswerNumbers.{AnswerNumbers}
use Rattle.core_service.specs.declared.marks.HeldMark.{HeldMark}
use Rattle.core_service.specs.declared.marks.TheConstants.{MOST_HELD}
use Rattle.core_service.specs.Answering.{drawn_answer, row_of}

-- What contracts see of the held cursors: the number of the one that was opened last, 0 before the first; and of each, in the order in which they were opened, its mark (its own number, the position at which it was opened, and the start of the answer that was drawn from it and not given), and the cursor itself.
pub record HeldState : Type 0 where
  pub last : ℕ
  pub marks : List HeldMark
  pub cursors : List Open

-- none is held, and none was
abbrev pub none_held : HeldState
none_held = record { last = 0; marks = []; cursors = [] }

-- the numbers rise, from above the first one up to the last
abbrev pub RiseTo : ℕ → ℕ → List HeldMark → Type 0
RiseTo low last [] = low ≤ last
RiseTo low last (m ∷ marks) = (low < m.number) × RiseTo m.number last marks

-- There is a mark for each cursor, there are not too many, and no two have one number.
pub record IsHolding (last : ℕ) (marks : List HeldMark) (cursors : List Open) : Type 0 where
  pub count : length marks ≡ length cursors
  pub few : length marks ≤ MOST_HELD
  pub rising : RiseTo 0 last marks

-- What a held cursor has left: the row of the answer that was drawn from it and not given, if one was, and the rows of those that it is still to give.
pub record HeldRows : Type 0 where
  pub drawn : List Row
  pub later : List Row

-- in the order in which it gives them
abbrev pub rows_left : HeldRows → List Row
rows_left rows = rows.drawn ++ rows.later

-- of the cursor with this mark, each of its query and at the position where it was opened
abbrev pub cursor_rows : EngineState → HeldMark → Open → HeldRows
cursor_rows engine mark cursor = record {
  drawn = map (row_at cursor.query mark.end) (drawn_answer mark.drawn (cursor ∷ []));
  later = map (row_at cursor.query mark.end) (map answer_of (rest engine cursor));
}

-- of the one with this number
abbrev pub rows_among : EngineState → List HeldMark → List Open → ℕ → Option HeldRows
rows_among engine [] cursors number = None
rows_among engine (m ∷ marks) [] number = None
rows_among engine (m ∷ marks) (c ∷ cursors) number = if m.number == number then Some (cursor_rows engine m c) else rows_among engine marks cursors number

-- what the held cursor of this number has left; none where no cursor of this number is held
abbrev pub held_rows : EngineState → HeldState → ℕ → Option HeldRows
held_rows engine held number = rows_among engine held.marks held.cursors number

-- the others are held as before, and have the same left
abbrev pub SameOthers : EngineState → ℕ → HeldState → HeldState → Type 0
SameOthers engine number old new = (other : ℕ) → (other ≡ number → ⊥) → held_rows engine new other ≡ held_rows engine old other

-- Each cursor is held still, with the same left, of another engine.
pub record SameHeld (engine later : EngineState) (old new : HeldState) : Type 0 where
  pub last : new.last ≡ old.last
  pub count : length new.marks ≡ length old.marks
  pub rows : (number : ℕ) → held_rows later new number ≡ held_rows engine old number

-- A cursor comes, which has these rows left; its number is one more than that of the cursor that was opened last, so that none was given twice.
pub record AddsHeld (engine : EngineState) (number : ℕ) (old new : HeldState) (rows : HeldRows) : Type 0 where
  pub number_is : number ≡ old.last + 1
  pub last : new.last ≡ number
  pub count : length new.marks ≡ length old.marks + 1
  pub free : held_rows engine old number ≡ None
  pub here : held_rows engine new number ≡ Some rows
  pub others : SameOthers engine number old new

-- The cursor of this number had the first rows left, and has the second ones now.
pub record ChangesHeld (engine : EngineState) (number : ℕ) (old new : HeldState) (before now : HeldRows) : Type 0 where
  pub last : new.last ≡ old.last
  pub count : length new.marks ≡ length old.marks
  pub was : held_rows engine old number ≡ Some before
  pub is : held_rows engine new number ≡ Some now
  pub others : SameOthers engine number old new

-- The cursor of this number goes.
pub record DropsHeld (engine : EngineState) (number : ℕ) (old new : HeldState) : Type 0 where
  pub last : new.last ≡ old.last
  pub count : length new.marks + 1 ≡ length old.marks
  pub rows : HeldRows
  pub was : held_rows engine old number ≡ Some rows
  pub gone : held_rows engine new number ≡ None
  pub others : SameOthers engine number old new

-- The cursor of this number stands at the place. Private clauses alone cite it.
pub record StandsAt (held : HeldState) (number place : ℕ) : Type 0 where
  pub mark : HeldMark
  pub cursor : Open
  pub mark_is : slice_get held.marks place ≡ Some mark
  pub cursor_is : slice_get held.cursors place ≡ Some cursor
  pub number_is : mark.number ≡ number

-- the numbers are those of the answer that was drawn, whose positions are these, greatest first; or nothing is left
abbrev pub AreNumbersOf : HeldRows → List ℕ → Option AnswerNumbers → Type 0
AreNumbersOf rows path (Some numbers) = (rows.drawn ≡ row_of numbers (reverse path) ∷ []) × (numbers.count ≡ length path)
AreNumbersOf rows path None = rows_left rows ≡ []

-- The next answer of the cursor is drawn, where it has one and none was drawn; the same are left. Private clauses alone cite it.
pub record IsDrawn (engine : EngineState) (number place : ℕ) (old new : HeldState) (result : Option AnswerNumbers) : Type 0 where
  pub before : HeldRows
  pub now : HeldRows
  pub changes : ChangesHeld engine number old new before now
  pub left : rows_left now ≡ rows_left before
  pub cursor : Open
  pub cursor_is : slice_get new.cursors place ≡ Some cursor
  pub shown : AreNumbersOf now cursor.path result

-- The answer that was drawn from the cursor is given.
pub record HasGivenDrawn (engine : EngineState) (number : ℕ) (old new : HeldState) : Type 0 where
  pub before : HeldRows
  pub changes : ChangesHeld engine number old new before (record before { drawn = [] })

-- The rows are exactly those of the query of this number at the engine's last position, each once.
pub record AreRowsOfQuery (engine : EngineState) (query : ℕ) (rows : List Row) : Type 0 where
  pub are : (events : List Event) (q : Query) → StandsFor engine events → slice_get engine.queries (query - 1) ≡ Some q →
      (answers : List Answer) × AreAnswersAt engine.schema q events (length events - 1) answers × (rows ≡ map (row_at query (length events - 1)) answers)
