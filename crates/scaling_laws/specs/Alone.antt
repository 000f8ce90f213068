-- The rows of one query among those of all.
use Rattle.std.specs.Prelude.{◌≡◌, ℕ, ◌+◌, ◌==◌, List, [], ◌∷◌, map, filter, Some, slice_get}
use Rattle.stream_schema.specs.Types.{Declared}
use Rattle.stream_schema.specs.declared.Event.{Event}
use Rattle.cel_terms.specs.declared.Query.{Query}
use Rattle.answer_text.specs.declared.Order.{Order}
use Rattle.answer_text.specs.OutputRows.{Row, row_at, AreOutputRows}

-- the row as one of the first query
abbrev pub of_first : Row → Row
of_first row = row_at 1 row.end row.answer

-- the rows of the query with this number, as those of the first
abbrev pub rows_of_query : ℕ → List Row → List Row
rows_of_query number rows = map of_first (filter (λ row. row.number == number) rows)

-- The rows of each query are those of a text that has it alone.
abbrev pub QueriesAnswerAlone : Type 0
QueriesAnswerAlone = (order : Order) (schema : Declared) (queries : List Query) (events : List Event) (rows : List Row) (place : ℕ) (q : Query) →
    slice_get queries place ≡ Some q →
    AreOutputRows order schema queries events rows → AreOutputRows order schema (q ∷ []) events (rows_of_query (place + 1) rows)
