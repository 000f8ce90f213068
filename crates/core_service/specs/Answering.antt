-- The answers at a service's last position: which of them are still to be given, and which queries were asked for them.
use Rattle.std.specs.Prelude.{◌≡◌, ℕ, ◌+◌, ◌-◌, ◌<◌, ◌≤◌, ◌↔◌, List, [], ◌∷◌, ◌++◌, length, map, get_or, drop, reverse, All, Option, Some, None, slice_get, Result, Ok, Err}
use Rattle.cer_base.specs.declared.Memory.{Memory}
use Rattle.stream_schema.specs.declared.Event.{Event}
use Rattle.cel_terms.specs.declared.Query.{Query}
use Rattle.cel_terms.specs.Answers.{Answer, AreAnswersAt}
use Rattle.answer_text.specs.declared.Order.TheVariants.{Walk}
use Rattle.answer_text.specs.OutputRows.{Row, row_at, AreRowsAt}
use Rattle.answer_blocks.specs.Wanted.{to_give}
use Rattle.query_engine.specs.Engine.{EngineState, Open, StandsFor, Fits, IsKept, count_of}
use Rattle.core_service.specs.declared.AnswerNumbers.{AnswerNumbers}

-- What contracts see of the answers at the last position: the number of the query that was asked last, 0 before the first; its cursor, one or none; how many of its answers are still wanted, where it says so; the start of the answer that was drawn from it and not given; and the positions of the answer that was looked at last, rising.
pub record AnswersState : Type 0 where
  pub asked : ℕ
  pub cursors : List Open
  pub wanted : Option ℕ
  pub drawn : Option ℕ
  pub positions : List ℕ

-- the positions that the cursor gave last, greatest first
abbrev pub path_of : List Open → List ℕ
path_of [] = []
path_of (c ∷ cs) = c.path

-- the answer that was drawn, if one was
abbrev pub drawn_answer : Option ℕ → List Open → List Answer
drawn_answer None cursors = []
drawn_answer (Some start) cursors = record { start = start; marks = reverse (path_of cursors) } ∷ []

-- the answers that the cursor is still to give
abbrev pub cursor_answers : EngineState → Option ℕ → List Open → List Answer
cursor_answers engine wanted [] = []
cursor_answers engine wanted (c ∷ cs) = to_give engine wanted c

-- the answers of the query that was asked last which are still to be given
abbrev pub answers_begun : EngineState → AnswersState → List Answer
answers_begun engine answers = drawn_answer answers.drawn answers.cursors ++ cursor_answers engine answers.wanted answers.cursors

-- These rows are left to be given at the last of the events: those of the query that was asked last which are still to be given, and then all rows of the queries after it.
pub record AreLeft (engine : EngineState) (answers : AnswersState) (events : List Event) (rows : List Row) : Type 0 where
  pub later : List Row
  pub later_are : AreRowsAt Walk engine.schema (answers.asked + 1) (drop answers.asked engine.queries) events (length events - 1) later
  pub are : rows ≡ map (row_at answers.asked (length events - 1)) (answers_begun engine answers) ++ later

-- What is left after some rows were given, with these rows in front, was left before.
pub record Leaves (engine : EngineState) (old new : AnswersState) (given : List Row) : Type 0 where
  pub left : (events : List Event) (rows : List Row) → StandsFor engine events → AreLeft engine new events rows → AreLeft engine old events (given ++ rows)

-- the row of the answer that was drawn, at this position
abbrev pub rows_drawn : AnswersState → ℕ → List Row
rows_drawn answers end = map (row_at answers.asked end) (drawn_answer answers.drawn answers.cursors)

-- What is left after the answer that was drawn is given, with its row in front, was left before.
pub record LeavesDrawn (engine : EngineState) (old new : AnswersState) : Type 0 where
  pub left : (events : List Event) (rows : List Row) → StandsFor engine events → AreLeft engine new events rows → AreLeft engine old events (rows_drawn old (length events - 1) ++ rows)

-- No row is left.
pub record NoneIsLeft (engine : EngineState) (answers : AnswersState) : Type 0 where
  pub none : (events : List Event) (rows : List Row) → StandsFor engine events → AreLeft engine answers events rows ↔ (rows ≡ [])

-- The same rows are left, of another engine.
pub record SameLeft (engine later : EngineState) (old new : AnswersState) : Type 0 where
  pub left : (events : List Event) (rows : List Row) → AreLeft later new events rows ↔ AreLeft engine old events rows

-- Each cursor is kept over a compaction.
pub record AreKept (old new : EngineState) (before after : List Open) : Type 0 where
  pub count : length after ≡ length before
  pub each : (k : ℕ) (d : Open) → k < length before → IsKept old new (get_or before k d) (get_or after k d)

-- the row of an answer, whose positions are these
abbrev pub row_of : AnswerNumbers → List ℕ → Row
row_of numbers positions = record { number = numbers.query; end = numbers.end; answer = record { start = numbers.start; marks = positions } }

-- The numbers are those of the answer that was drawn, which ends at the last position.
pub record AreNumbers (engine : EngineState) (answers : AnswersState) (numbers : AnswerNumbers) : Type 0 where
  pub drawn : rows_drawn answers numbers.end ≡ row_of numbers answers.positions ∷ []
  pub count : numbers.count ≡ length answers.positions
  pub last : (events : List Event) → StandsFor engine events → numbers.end ≡ length events - 1

-- the numbers of the answer that comes next, or none is left; nothing is said where memory ran out
abbrev pub IsShown : EngineState → AnswersState → Result (Option AnswerNumbers) Memory → Type 0
IsShown engine answers (Ok (Some numbers)) = AreNumbers engine answers numbers
IsShown engine answers (Ok None) = NoneIsLeft engine answers
IsShown engine answers (Err refused) = Unit {0}

-- The queries whose numbers are above the first and at most the second have no answer at the last position.
pub record HaveNoAnswer (engine : EngineState) (above upto : ℕ) : Type 0 where
  pub none : (k : ℕ) (q : Query) (events : List Event) → above ≤ k → k < upto → slice_get engine.queries k ≡ Some q → StandsFor engine events
      → AreAnswersAt engine.schema q events (length events - 1) []

-- The number is that of a query that is asked next: no query between has an answer.
pub record IsNextQuery (engine : EngineState) (asked number : ℕ) : Type 0 where
  pub above : asked < number
  pub within : number ≤ length engine.queries
  pub between : HaveNoAnswer engine asked (number - 1)

-- The cursors, one at most, can be pulled from the engine, and where a query is not asked yet some event was taken.
pub record CanAnswer (engine : EngineState) (answers : AnswersState) : Type 0 where
  pub fit : All (Fits engine) answers.cursors
  pub one : length answers.cursors ≤ 1
  pub within : answers.asked ≤ length engine.queries
  pub seen : answers.asked < length engine.queries → 0 < count_of engine
