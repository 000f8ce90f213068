-- The output as rows: what each of its lines says, by position and then by query.
use Rattle.std.specs.Prelude.{◌≡◌, ℕ, zero, suc, ◌+◌, List, [], ◌∷◌, ◌++◌, length, map, Contains, flat_map}
use Rattle.cer_base.specs.Repeats.{HasNoRepeats}
use Rattle.stream_schema.specs.Types.{Declared}
use Rattle.stream_schema.specs.declared.Event.{Event}
use Rattle.cel_terms.specs.declared.Query.{Query}
use Rattle.cel_terms.specs.Answers.{Answer, IsAnswer}
use Rattle.answer_text.specs.declared.Order.{Order}
use Rattle.answer_text.specs.Output.{line, AreEnough, AreInOrder}

-- What a line says: the number of a query, from 1, a position, and an answer.
pub record Row : Type 0 where
  pub number : ℕ
  pub end : ℕ
  pub answer : Answer

abbrev pub row_line : Row → List ℕ
row_line row = line row.number row.end row.answer

-- the lines of the rows, one after the other
abbrev pub lines_of : List Row → List ℕ
lines_of rows = flat_map row_line rows

-- the row of an answer of the query with this number, at this position
abbrev pub row_at : ℕ → ℕ → Answer → Row
row_at number end answer = record { number = number; end = end; answer = answer }

-- the rows of one query at one position
pub record AreRowsOf (order : Order) (schema : Declared) (number : ℕ) (q : Query) (events : List Event) (end : ℕ) (rows : List Row) : Type 0 where
  pub answers : List Answer
  pub distinct : HasNoRepeats answers
  pub right : (answer : Answer) → Contains answers answer → IsAnswer schema q events end answer
  pub enough : AreEnough q.any (IsAnswer schema q events end) answers
  pub ordered : AreInOrder order answers
  pub are : rows ≡ map (row_at number end) answers

-- the rows of the queries at one position, of which the first has this number
abbrev pub AreRowsAt : Order → Declared → ℕ → List Query → List Event → ℕ → List Row → Type 0
AreRowsAt order schema number [] events end rows = rows ≡ []
AreRowsAt order schema number (q ∷ qs) events end rows = (front : List Row) × (rest : List Row)
    × AreRowsOf order schema number q events end front
    × AreRowsAt order schema (number + 1) qs events end rest × (rows ≡ front ++ rest)

-- the rows at the first n positions
abbrev pub AreFirstRows : ℕ → Order → Declared → List Query → List Event → List Row → Type 0
AreFirstRows zero order schema queries events rows = rows ≡ []
AreFirstRows (suc n) order schema queries events rows = (front : List Row) × (rest : List Row)
    × AreFirstRows n order schema queries events front
    × AreRowsAt order schema 1 queries events n rest × (rows ≡ front ++ rest)

-- The rows of what the program writes for a stream of events.
abbrev pub AreOutputRows : Order → Declared → List Query → List Event → List Row → Type 0
AreOutputRows order schema queries events rows = AreFirstRows (length events) order schema queries events rows
