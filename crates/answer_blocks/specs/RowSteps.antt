-- The answers at an engine's last position as rows, and the steps that giving them may take.
use Rattle.std.specs.Prelude.{◌≡◌, ℕ, ◌+◌, ◌-◌, ◌≤◌, List, [], ◌∷◌, ◌++◌, length, sum_by, Option, Some, slice_get, Result, Ok, Err}
use Rattle.stream_schema.specs.declared.Event.{Event}
use Rattle.cel_terms.specs.declared.Query.{Query}
use Rattle.cel_terms.specs.Answers.{Answer}
use Rattle.cer_base.specs.declared.OrMemory.{OrMemory}
use Rattle.cer_base.specs.declared.OrMemory.TheVariants.{Fault, Memory}
use Rattle.cer_outside.specs.Bytes.{TookAll, TookPart}
use Rattle.query_engine.specs.Bounds.{delay}
use Rattle.query_engine.specs.Engine.{EngineState, StandsFor}
use Rattle.answer_text.specs.declared.Order.{Order}
use Rattle.answer_text.specs.OutputRows.{Row, row_line, lines_of, AreRowsOf, AreRowsAt}
use Rattle.answer_blocks.specs.SinkBytes.{TookPrefix}

-- for one answer, by how many positions it has
abbrev pub delay_of : Answer → ℕ
delay_of answer = delay (length answer.marks)

-- for each of these answers
abbrev pub delays : List Answer → ℕ
delays answers = sum_by delay_of answers

-- for the answer of each row
abbrev pub row_delays : List Row → ℕ
row_delays rows = sum_by (λ (row : Row). delay_of row.answer) rows

-- The rows of the query with the number, with what is said of them.
pub record HasRows (order : Order) (engine : EngineState) (number : ℕ) (P : List Row → Type 0) : Type 0 where
  pub rows_are : (events : List Event) (q : Query) → StandsFor engine events → slice_get engine.queries (number - 1) ≡ Some q →
      (rows : List Row) × AreRowsOf order engine.schema number q events (length events - 1) rows × P rows

-- The rows of the queries, the first of which has the number 1.
pub record HasRowsAt (order : Order) (engine : EngineState) (queries : List Query) (P : List Row → Type 0) : Type 0 where
  pub rows_are : (events : List Event) → StandsFor engine events →
      (rows : List Row) × AreRowsAt order engine.schema 1 queries events (length events - 1) rows × P rows

-- A write failed at one of the rows: the lines before it were taken whole, of its own a proper first part. The answers of these rows alone were asked for.
pub record StopsAmong (before after : Option (List ℕ)) (rows : List Row) (most now : ℕ) : Type 0 where
  pub whole : List Row
  pub one : Row
  pub later : List Row
  pub rows_are : rows ≡ whole ++ one ∷ later
  pub middle : Option (List ℕ)
  pub took : TookAll before middle (lines_of whole)
  pub part : TookPart middle after (row_line one)
  pub steps : now ≤ most + row_delays (whole ++ one ∷ [])

-- What was written of the rows, and how many steps there are now: so many at most, and the delay of each answer that was asked for.
abbrev pub WroteRows : {T F : Type 0} → Option (List ℕ) → Option (List ℕ) → List Row → ℕ → ℕ → Result T (OrMemory F) → Type 0
WroteRows before after rows most now (Ok done) = TookAll before after (lines_of rows) × (now ≤ most + row_delays rows)
WroteRows before after rows most now (Err (Fault f)) = StopsAmong before after rows most now
WroteRows before after rows most now (Err Memory) = TookPrefix before after (lines_of rows) × (now ≤ most + row_delays rows)
