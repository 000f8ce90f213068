-- The output as rows: each line is that of one answer.
use Rattle.std.specs.Prelude.{◌≡◌, ℕ, ◌+◌, ◌<◌, ◌≤◌, ◌^◌, ◌↔◌, List, ◌++◌, All, Contains, Some, None, length, slice_get, flat_map}
use Rattle.cer_base.specs.Repeats.{HasNoRepeats}
use Rattle.stream_schema.specs.Types.{Declared}
use Rattle.stream_schema.specs.declared.Event.{Event}
use Rattle.cel_terms.specs.declared.Query.{Query}
use Rattle.cel_terms.specs.Answers.{Answer, IsAnswer}
use Rattle.answer_text.specs.declared.Order.{Order}
use Rattle.answer_text.specs.Output.{IsOutput}
use Rattle.output_laws.specs.AnswerLaws.{HasBlocks}
use Rattle.answer_text.specs.OutputRows.{lines_of, AreOutputRows}
pub use Rattle.answer_text.specs.OutputRows.{Row, row_line}

-- The query of this number has the answer at this position.
pub record IsRow (schema : Declared) (queries : List Query) (events : List Event) (row : Row) : Type 0 where
  pub place : ℕ
  pub query : Query
  pub numbered : row.number ≡ place + 1
  pub asked : slice_get queries place ≡ Some query
  pub answers : IsAnswer schema query events row.end row.answer

-- The bytes are the lines of these rows, of which none stands twice; without ANY they are all that there are.
pub record AreLinesOf (schema : Declared) (queries : List Query) (events : List Event) (bytes : List ℕ) (rows : List Row) : Type 0 where
  pub distinct : HasNoRepeats rows
  pub right : (row : Row) → Contains rows row → IsRow schema queries events row
  pub all : All (λ q. q.any ≡ None) queries → (row : Row) → IsRow schema queries events row → Contains rows row
  pub written : bytes ≡ flat_map row_line rows

-- Each line of the output is that of an answer, and no answer has two.
abbrev pub OutputIsRows : Type 0
OutputIsRows = (order : Order) (schema : Declared) (queries : List Query) (events : List Event) (bytes : List ℕ) →
    IsOutput order schema queries events bytes →
    (rows : List Row) × AreLinesOf schema queries events bytes rows

-- Two lists of rows have the same rows.
abbrev pub HaveSameRows : List Row → List Row → Type 0
HaveSameRows rows others = (row : Row) → Contains rows row ↔ Contains others row

-- Where no query has ANY, the same lines are written in every order.
abbrev pub OrdersWriteTheSameLines : Type 0
OrdersWriteTheSameLines = (order other : Order) (schema : Declared) (queries : List Query) (events : List Event) (bytes more : List ℕ) →
    All (λ q. q.any ≡ None) queries →
    IsOutput order schema queries events bytes → IsOutput other schema queries events more →
    (rows : List Row) × (others : List Row) × AreLinesOf schema queries events bytes rows
    × AreLinesOf schema queries events more others × HaveSameRows rows others

-- A line tells its row, where numbers and positions are of 64 bits.
abbrev pub LinesTellTheirRows : Type 0
LinesTellTheirRows = (schema : Declared) (queries : List Query) (events : List Event) (row other : Row) →
    length queries < 2 ^ 64 → length events ≤ 2 ^ 64 →
    IsRow schema queries events row → IsRow schema queries events other →
    row_line row ≡ row_line other → row ≡ other

-- The lines of the output's rows are the output, and every output is the lines of such rows.
pub record RowsAreTheOutput : Type 0 where
  pub lines : (order : Order) (schema : Declared) (queries : List Query) (events : List Event) (rows : List Row) →
      AreOutputRows order schema queries events rows → IsOutput order schema queries events (lines_of rows)
  pub rows : (order : Order) (schema : Declared) (queries : List Query) (events : List Event) (bytes : List ℕ) →
      IsOutput order schema queries events bytes → (rows : List Row) × AreOutputRows order schema queries events rows × (bytes ≡ lines_of rows)

-- More events put more rows after, where each position has its blocks.
abbrev pub RowsGrowAtTheirEnd : Type 0
RowsGrowAtTheirEnd = (order : Order) (schema : Declared) (queries : List Query) (events more : List Event) (rows : List Row) →
    ((end : ℕ) → HasBlocks order schema queries (events ++ more) end) →
    AreOutputRows order schema queries events rows →
    (rest : List Row) × AreOutputRows order schema queries (events ++ more) (rows ++ rest)
