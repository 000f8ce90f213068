-- The numbers of values with which an event may concern a row, as runs of numbers and as pieces of rows.
use Rattle.std.specs.Prelude.{◌≡◌, ℕ, ◌⊎◌, ℤ, ◌≤ℤ◌, List, Contains}
use Rattle.stream_schema.specs.declared.Event.{Event}
use Rattle.predicate_bits.specs.declared.spans.Span.{Span}
use Rattle.predicate_bits.specs.Spans.{IsAt}
use Rattle.query_index.specs.declared.rows.LeafRow.{LeafRow}
use Rattle.query_index.specs.declared.rows.IndexedLeaf.{IndexedLeaf}
use Rattle.query_index.specs.declared.runs.Run.{Run}
use Rattle.query_index.specs.declared.buckets.Piece.{Piece}
use Rattle.query_index.specs.Index.{ReadsNot}

-- One of the runs has the number.
pub record HasNumber (runs : List Run) (number : ℤ) : Type 0 where
  pub run : Run
  pub listed : Contains runs run
  pub low : run.low ≤ℤ number
  pub high : number ≤ℤ run.high

-- each number of these runs is one of those
abbrev pub KeepNumbers : List Run → List Run → Type 0
KeepNumbers old new = (number : ℤ) → HasNumber old number → HasNumber new number

-- an event whose value at the place is one of the span has a number of the runs, or the row's tests do not hold of it
abbrev pub Cover : List Run → List IndexedLeaf → ℕ → Span → LeafRow → Type 0
Cover runs leaves place span row = (event : Event) (at : IsAt place span event) → HasNumber runs at.2.0 ⊎ ReadsNot leaves event row

-- One of the pieces is of the row and has the number.
pub record HasPiece (pieces : List Piece) (row : LeafRow) (number : ℤ) : Type 0 where
  pub piece : Piece
  pub listed : Contains pieces piece
  pub of : piece.row ≡ row
  pub low : piece.run.low ≤ℤ number
  pub high : number ≤ℤ piece.run.high

-- There are pieces more, all of the row, for each number of the runs.
pub record HavePieces (row : LeafRow) (runs : List Run) (old new : List Piece) : Type 0 where
  pub within : (p : Piece) → Contains new p → Contains old p ⊎ (p.row ≡ row)
  pub kept : (p : Piece) → Contains old p → Contains new p
  pub each : (number : ℤ) → HasNumber runs number → HasPiece new row number

-- These are pieces of the rows; where a row may concern an event whose value at the place is one of the span, one of its pieces has that number.
pub record ArePieces (rows : List LeafRow) (leaves : List IndexedLeaf) (place : ℕ) (span : Span) (pieces : List Piece) : Type 0 where
  pub within : (p : Piece) → Contains pieces p → Contains rows p.row
  pub others : (r : LeafRow) → Contains rows r → (event : Event) (at : IsAt place span event) → HasPiece pieces r at.2.0 ⊎ ReadsNot leaves event r

-- the piece and the span have the number
abbrev pub Share : Piece → Span → ℤ → Type 0
Share piece span number = (piece.run.low ≤ℤ number) × (number ≤ℤ piece.run.high) × (span.low ≤ℤ number) × (number ≤ℤ span.high)

-- These are some of the pieces, those with a number of the span among them.
pub record AreMeeting (pieces : List Piece) (span : Span) (some : List Piece) : Type 0 where
  pub within : (p : Piece) → Contains some p → Contains pieces p
  pub each : (p : Piece) → Contains pieces p → (number : ℤ) → Share p span number → Contains some p

-- These are rows of the pieces, those of the pieces with a number of the span among them.
pub record AreMeetingRows (pieces : List Piece) (span : Span) (rows : List LeafRow) : Type 0 where
  pub within : (r : LeafRow) → Contains rows r → (p : Piece) × Contains pieces p × (p.row ≡ r)
  pub each : (p : Piece) → Contains pieces p → (number : ℤ) → Share p span number → Contains rows p.row
