-- Rows by the values that an event may have at a place.
use Rattle.std.specs.Prelude.{◌≡◌, ℕ, ◌<◌, ◌≤◌, ◌⊎◌, ◌≤ℤ◌, Bool, false, List, [], ◌∷◌, ◌++◌, All, length, map, take, Some, Vec, Contains, slice_get, slice_index_or}
use Rattle.std.specs.declared.alloc.Global.{Global}
use Rattle.stream_schema.specs.declared.Kind.{Kind}
use Rattle.stream_schema.specs.declared.Event.{Event}
use Rattle.query_leaves.specs.Shapes.{each_holds}
use Rattle.predicate_bits.specs.declared.spans.Span.{Span}
use Rattle.predicate_bits.specs.Spans.{IsAt}
use Rattle.query_index.specs.declared.rows.LeafRow.{LeafRow}
use Rattle.query_index.specs.declared.rows.IndexedLeaf.{IndexedLeaf}
use Rattle.query_index.specs.declared.buckets.Bucket.{Bucket}
use Rattle.query_index.specs.declared.index.Index.{Index}
use Rattle.query_index.specs.declared.shared_tests.SharedTests.{SharedTests}
use Rattle.query_index.specs.SharedTests.{AreSharing}
use Rattle.query_index.specs.Rows.{IsRowBelow, HaveRoom}

-- the tests of the row's leaf do not hold of the event
abbrev pub ReadsNot : List IndexedLeaf → Event → LeafRow → Type 0
ReadsNot leaves event row = (leaf : IndexedLeaf) → slice_get leaves row.leaf ≡ Some leaf → each_holds leaf.tests event ≡ false

-- they hold of no event whose value at the place is one of the span
abbrev pub IsApart : List IndexedLeaf → ℕ → Span → LeafRow → Type 0
IsApart leaves place span row = (event : Event) → IsAt place span event → ReadsNot leaves event row

-- These are rows of the list, and the tests of the others do not hold of an event whose value at the place is one of the span.
pub record AreRowsOver (list : List LeafRow) (leaves : List IndexedLeaf) (place : ℕ) (span : Span) (some : List LeafRow) : Type 0 where
  pub within : (r : LeafRow) → Contains some r → Contains list r
  pub others : (r : LeafRow) → Contains list r → (event : Event) → IsAt place span event → Contains some r ⊎ ReadsNot leaves event r

-- The span is of the same kind, and has no number that the other has not.
pub record IsWithin (wide span : Span) : Type 0 where
  pub kinded : span.kind ≡ wide.kind
  pub low : wide.low ≤ℤ span.low
  pub high : span.high ≤ℤ wide.high

-- the bucket has the rows that may concern an event whose value at the place has one of its numbers
abbrev pub IsBucket : List LeafRow → List IndexedLeaf → ℕ → Kind → Bucket → Type 0
IsBucket list leaves place kind bucket = AreRowsOver list leaves place (record { kind = kind; low = bucket.low; high = bucket.high }) bucket.rows.items

abbrev pub AreBuckets : List LeafRow → List IndexedLeaf → ℕ → Kind → List Bucket → Type 0
AreBuckets list leaves place kind buckets = All (IsBucket list leaves place kind) buckets

-- where there is something, it tells the leaf's tests of each of the rows
abbrev pub AreShared : List IndexedLeaf → List LeafRow → SharedTests → Type 0
AreShared leaves rows shared = 0 < length shared.rows.items → AreSharing leaves rows shared

-- Each bucket has those of the index's rows that may concern such an event, and what the rows share are their leaves' tests.
pub record IsIndex (leaves : List IndexedLeaf) (index : Index) : Type 0 where
  pub buckets : AreBuckets index.rows.items leaves index.place index.kind index.buckets.items
  pub shared : AreShared leaves index.rows.items index.shared

-- the rows of all of the indexes
abbrev pub gathered : List Index → List LeafRow
gathered [] = []
gathered (index ∷ indexes) = index.rows.items ++ gathered indexes

-- Two lists have the same rows.
pub record HaveSame (list rows : List LeafRow) : Type 0 where
  pub within : (r : LeafRow) → Contains rows r → Contains list r
  pub each : (r : LeafRow) → Contains list r → Contains rows r

-- The first so many rows are put into the indexes, or to those that have none.
pub record HasTaken (leaves : List IndexedLeaf) (rows : List LeafRow) (count : ℕ) (old new : List Index) (had have : List LeafRow) : Type 0 where
  pub some : 0 < count
  pub inside : count ≤ length rows
  pub same : (list : List LeafRow) → HaveSame list (gathered old ++ had) → HaveSame (list ++ take count rows) (gathered new ++ have)
  pub each : All (IsIndex leaves) old → All (IsIndex leaves) new

-- The rows of the list are parted in two.
pub record AreSplit (list taken left : List LeafRow) : Type 0 where
  pub taken_within : (r : LeafRow) → Contains taken r → Contains list r
  pub left_within : (r : LeafRow) → Contains left r → Contains list r
  pub each : (r : LeafRow) → Contains list r → Contains taken r ⊎ Contains left r

-- The rows of the list are those of the indexes, and each of these is one.
pub record AreIndexes (leaves : List IndexedLeaf) (list : List LeafRow) (indexes : List Index) : Type 0 where
  pub rows : HaveSame list (gathered indexes)
  pub each : All (IsIndex leaves) indexes

-- the indexes of each type, by the type's number
abbrev pub indexes_of : List (Vec Index Global) → List (List Index)
indexes_of vs = map (λ (v : Vec Index Global). v.items) vs

-- each type has its own
abbrev pub AreIndexed : List IndexedLeaf → List (List LeafRow) → List (List Index) → Type 0
AreIndexed leaves rows indexes = (ty : ℕ) → AreIndexes leaves (slice_index_or rows ty []) (slice_index_or indexes ty [])

-- These are rows of the list, and the others do not read the event.
pub record Suffice (leaves : List IndexedLeaf) (list : List LeafRow) (event : Event) (some : List LeafRow) : Type 0 where
  pub within : (r : LeafRow) → Contains some r → Contains list r
  pub others : (r : LeafRow) → Contains list r → Contains some r ⊎ ReadsNot leaves event r

-- There are leaves of which these are rows that share tests, and the sets have room for them.
pub record CanMark (index : Index) (event : Event) (into : List Bool) (sets : List (List Bool)) : Type 0 where
  pub leaves : List IndexedLeaf
  pub sharing : AreSharing leaves index.rows.items index.shared
  pub below : All (IsRowBelow (length into) leaves) index.rows.items
  pub room : HaveRoom index.rows.items leaves event sets
