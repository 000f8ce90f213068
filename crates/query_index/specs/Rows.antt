-- What is looked at of the leaves of queries before an event is taken.
use Rattle.std.specs.Prelude.{◌≡◌, ℕ, ◌+◌, ◌<◌, ◌⊎◌, ◌==◌, ◌||◌, nat_lt, not, Bool, true, false, List, [], length, map, filter, Some, Vec, slice_get, slice_index_or, Contains, IfSome, if◌then◌else◌}
use Rattle.std.specs.declared.alloc.Global.{Global}
use Rattle.cer_base.specs.Bits.{has}
use Rattle.stream_schema.specs.Types.{Declared}
use Rattle.stream_schema.specs.declared.Event.{Event}
use Rattle.cel_terms.specs.declared.Query.{Query}
use Rattle.query_leaves.specs.declared.Leaf.{Leaf}
use Rattle.query_leaves.specs.Expand.{Occurrence, tree_of}
use Rattle.query_leaves.specs.Leaves.{occurrences, occurrence_reads}
use Rattle.query_leaves.specs.Shapes.{each_holds, AreLeavesOf}
use Rattle.cea_compile.specs.Compiled.{automaton_of}
use Rattle.predicate_bits.specs.declared.ranges.Range.{Range}
use Rattle.predicate_bits.specs.Ranges.{AsksFor}
use Rattle.predicate_bits.specs.Checks.{all_checks_hold, ComesTo}
use Rattle.query_index.specs.declared.rows.LeafRow.{LeafRow}
use Rattle.query_index.specs.declared.rows.IndexedLeaf.{IndexedLeaf}
use Rattle.query_index.specs.declared.rows.TheConstants.{NONE}
use Rattle.query_index.specs.TextPrefilters.{AsksToOpen}

-- the rows of each type, by the type's number
abbrev pub rows_of : List (Vec LeafRow Global) → List (List LeafRow)
rows_of vs = map (λ (v : Vec LeafRow Global). v.items) vs

-- What contracts see: the rows of each type, the leaves that they are of, and how many queries there are.
pub record Table : Type 0 where
  pub rows : List (List LeafRow)
  pub leaves : List IndexedLeaf
  pub count : ℕ

-- the row is in the list of the type
abbrev pub IsListed : List (List LeafRow) → ℕ → LeafRow → Type 0
IsListed rows ty row = Contains (slice_index_or rows ty []) row

-- the row is looked at where the queries in the set may have an open match
abbrev pub is_awake : List Bool → LeafRow → Bool
is_awake open_queries row = (row.waits == NONE) || has open_queries row.waits

abbrev pub awake : List Bool → List LeafRow → List LeafRow
awake open_queries rows = filter (is_awake open_queries) rows

-- the type is in the set, or one that it has no room for
abbrev pub may_be_among : List Bool → ℕ → Bool
may_be_among types ty = not (nat_lt ty (length types)) || has types ty

-- The type is put in.
pub record HasType (ty : ℕ) (old new : List Bool) : Type 0 where
  pub here : may_be_among new ty ≡ true
  pub kept : (t : ℕ) → may_be_among old t ≡ true → may_be_among new t ≡ true

-- the number that a row of the type waits for, of a query the first event of whose matches has one of the types
abbrev pub waits_for : List Bool → ℕ → ℕ → ℕ
waits_for types query ty = if may_be_among types ty then NONE else query

-- the types of the leaves in the set
abbrev pub HaveTypes : List Leaf → List Bool → List Bool → Type 0
HaveTypes list some types = (k : ℕ) (l : Leaf) → slice_get list k ≡ Some l → has some k ≡ true → may_be_among types l.ty ≡ true

-- The list of the type has one row more.
pub record HasPut (ty : ℕ) (row : LeafRow) (old new : List (List LeafRow)) : Type 0 where
  pub more : IsListed new ty row
  pub kept : (t : ℕ) (r : LeafRow) → IsListed old t r → IsListed new t r
  pub only : (t : ℕ) (r : LeafRow) → IsListed new t r → IsListed old t r ⊎ ((ty ≡ t) × (row ≡ r))

-- The range is one that the leaf's tests ask for, and what they come to there are the leaf's checks, where it has them.
pub record IsRangeOf (range : Range) (leaf : IndexedLeaf) : Type 0 where
  pub asks : AsksFor range (each_holds leaf.tests)
  pub checks : IfSome leaf.checks (λ cs. ComesTo range (each_holds leaf.tests) (all_checks_hold cs.items))

-- The row is of a leaf of this query, which is there, and its range and its prefilter are ones that the leaf's tests ask for.
pub record IsRowOf (query : ℕ) (leaves : List IndexedLeaf) (row : LeafRow) : Type 0 where
  pub leaf : IndexedLeaf
  pub at : slice_get leaves row.leaf ≡ Some leaf
  pub range : IsRangeOf row.range leaf
  pub text_prefilter : AsksToOpen row.text_prefilter (each_holds leaf.tests)
  pub numbered : leaf.query ≡ query

-- The row in the list of the type is of one of these leaves of the query, which are numbered from this number on, and the leaf has this type and these tests. It waits for what its type does.
pub record IsRowOfLeaf (waiting : ℕ → ℕ) (query first : ℕ) (list : List Leaf) (leaves : List IndexedLeaf) (ty : ℕ) (row : LeafRow) : Type 0 where
  pub of : IsRowOf query leaves row
  pub leaf : Leaf
  pub place : ℕ
  pub listed : slice_get list place ≡ Some leaf
  pub own : of.leaf.number ≡ first + place
  pub type : leaf.ty ≡ ty
  pub tests : of.leaf.tests ≡ leaf.tests
  pub waits : row.waits ≡ waiting ty

-- These leaves of one query came, numbered from this number on, and their rows.
pub record HasAdded (waiting : ℕ → ℕ) (query first : ℕ) (list : List Leaf) (old : List (List LeafRow)) (had : List IndexedLeaf) (new : List (List LeafRow)) (have : List IndexedLeaf) : Type 0 where
  pub kept : (t : ℕ) (r : LeafRow) → IsListed old t r → IsListed new t r
  pub leaves : (k : ℕ) (l : IndexedLeaf) → slice_get had k ≡ Some l → slice_get have k ≡ Some l
  pub count : length have ≡ length had + length list
  pub only : (t : ℕ) (r : LeafRow) → IsListed new t r → IsListed old t r ⊎ IsRowOfLeaf waiting query first list have t r

-- Of a leaf of the query, which has this number there, there is a row in the list of its type, with its tests.
pub record HasLeafRow (query number : ℕ) (rows : List (List LeafRow)) (leaves : List IndexedLeaf) (l : Leaf) : Type 0 where
  pub row : LeafRow
  pub listed : IsListed rows l.ty row
  pub leaf : IndexedLeaf
  pub at : slice_get leaves row.leaf ≡ Some leaf
  pub numbered : leaf.query ≡ query
  pub own : leaf.number ≡ number
  pub tests : leaf.tests ≡ l.tests

-- each leaf has such a row, by its place in the list
abbrev pub HaveRows : ℕ → List Leaf → List (List LeafRow) → List IndexedLeaf → Type 0
HaveRows query list rows leaves = (k : ℕ) (l : Leaf) → slice_get list k ≡ Some l → HasLeafRow query k rows leaves l

-- Among the rows there is one of a leaf of the query whose tests hold of the event.
pub record HaveReader (rows : List LeafRow) (leaves : List IndexedLeaf) (query : ℕ) (event : Event) : Type 0 where
  pub row : LeafRow
  pub listed : Contains rows row
  pub leaf : IndexedLeaf
  pub at : slice_get leaves row.leaf ≡ Some leaf
  pub numbered : leaf.query ≡ query
  pub holds : each_holds leaf.tests event ≡ true

-- and that leaf has this number among those of the query
abbrev pub HaveLeaf : List LeafRow → List IndexedLeaf → ℕ → ℕ → Event → Type 0
HaveLeaf rows leaves query number event = (h : HaveReader rows leaves query event) × (h.leaf.number ≡ number)

-- in the list of the event's type there is such a row
abbrev pub HasRow : List (List LeafRow) → List IndexedLeaf → ℕ → Event → Type 0
HasRow rows leaves query event = HaveReader (slice_index_or rows event.ty []) leaves query event

-- and one of the leaf of this number
abbrev pub HasLeaf : List (List LeafRow) → List IndexedLeaf → ℕ → ℕ → Event → Type 0
HasLeaf rows leaves query number event = HaveLeaf (slice_index_or rows event.ty []) leaves query number event

-- The set has exactly the numbers of the query's leaves that have such a row.
pub record AreReaders (rows : List (List LeafRow)) (leaves : List IndexedLeaf) (query : ℕ) (event : Event) (set : List Bool) : Type 0 where
  pub each : (k : ℕ) → HasLeaf rows leaves query k event → has set k ≡ true
  pub only : (k : ℕ) → has set k ≡ true → HasLeaf rows leaves query k event

-- the set of each query has room for the numbers of its leaves of which there is such a row among these
abbrev pub HaveRoom : List LeafRow → List IndexedLeaf → Event → List (List Bool) → Type 0
HaveRoom rows leaves event sets = (query number : ℕ) → HaveLeaf rows leaves query number event → number < length (slice_index_or sets query [])

-- and that of each of the first so many queries for those of which there is one in the list of the event's type
abbrev pub HaveRooms : ℕ → List (List LeafRow) → List IndexedLeaf → Event → List (List Bool) → Type 0
HaveRooms count rows leaves event sets = (query number : ℕ) → query < count → HasLeaf rows leaves query number event → number < length (slice_index_or sets query [])

-- The leaves of the query came, and their rows.
pub record HasAddedQuery (schema : Declared) (q : Query) (query : ℕ) (old : List (List LeafRow)) (had : List IndexedLeaf) (new : List (List LeafRow)) (have : List IndexedLeaf) : Type 0 where
  pub list : List Leaf
  pub are : AreLeavesOf schema (occurrences (tree_of q)) list
  pub types : List Bool
  pub first : (k : ℕ) (l : Leaf) → slice_get list k ≡ Some l → (automaton_of (tree_of q)).first k ≡ true → may_be_among types l.ty ≡ true
  pub added : HasAdded (waits_for types query) query 0 list old had new have

-- each event that a leaf of the query can read has such a row of that leaf
abbrev pub IsIndexed : Declared → Query → ℕ → List (List LeafRow) → List IndexedLeaf → Type 0
IsIndexed schema q query rows leaves = (event : Event) (k : ℕ) (o : Occurrence) → slice_get (occurrences (tree_of q)) k ≡ Some o → occurrence_reads schema o event ≡ true → HasLeaf rows leaves query k event

-- and that of each of the queries, by their numbers from 0
abbrev pub IsLeafIndex : Declared → List Query → List (List LeafRow) → List IndexedLeaf → Type 0
IsLeafIndex schema queries rows leaves = (query : ℕ) (q : Query) → slice_get queries query ≡ Some q → IsIndexed schema q query rows leaves

-- each event that has such a row the leaf of the query that it is of can read
abbrev pub IsExact : Declared → Query → ℕ → List (List LeafRow) → List IndexedLeaf → Type 0
IsExact schema q query rows leaves = (event : Event) (k : ℕ) → HasLeaf rows leaves query k event → (o : Occurrence) × (slice_get (occurrences (tree_of q)) k ≡ Some o) × (occurrence_reads schema o event ≡ true)

-- and that of each of the queries
abbrev pub AreExact : Declared → List Query → List (List LeafRow) → List IndexedLeaf → Type 0
AreExact schema queries rows leaves = (query : ℕ) (q : Query) → slice_get queries query ≡ Some q → IsExact schema q query rows leaves

-- a row of an event's type that is not looked at is of a query which may have no open match, and of which no leaf that may read the first event of a match can read the event
abbrev pub IsWaiting : Query → ℕ → List (List LeafRow) → List IndexedLeaf → Type 0
IsWaiting q query rows leaves = (event : Event) (h : HasRow rows leaves query event) (open_queries : List Bool) → is_awake open_queries h.row ≡ false →
    (has open_queries query ≡ false) × ((k : ℕ) → HasLeaf rows leaves query k event → (automaton_of (tree_of q)).first k ≡ false)

-- and that of each of the queries
abbrev pub AreWaiting : List Query → List (List LeafRow) → List IndexedLeaf → Type 0
AreWaiting queries rows leaves = (query : ℕ) (q : Query) → slice_get queries query ≡ Some q → IsWaiting q query rows leaves

-- rows of one type that are of one query wait for the same
abbrev pub WaitAlike : List (List LeafRow) → List IndexedLeaf → Type 0
WaitAlike rows leaves = (t query : ℕ) (r s : LeafRow) → IsListed rows t r → IsListed rows t s → IsRowOf query leaves r → IsRowOf query leaves s → r.waits ≡ s.waits

-- The row is of a leaf of a query below the number.
pub record IsRowBelow (count : ℕ) (leaves : List IndexedLeaf) (row : LeafRow) : Type 0 where
  pub query : ℕ
  pub of : IsRowOf query leaves row
  pub below : query < count

-- each row is of such a leaf
abbrev pub AreBelow : ℕ → List (List LeafRow) → List IndexedLeaf → Type 0
AreBelow count rows leaves = (t : ℕ) (r : LeafRow) → IsListed rows t r → IsRowBelow count leaves r

-- The queries are marked of the rows whose leaf's tests hold of the event, and no others, and the numbers of these leaves are put into their queries' sets: into those that were there where the query was marked before, else into empty ones.
pub record Marks (rows : List LeafRow) (leaves : List IndexedLeaf) (event : Event) (before after : List Bool) (had have : List (List Bool)) : Type 0 where
  pub marked : (k : ℕ) → HaveReader rows leaves k event → has after k ≡ true
  pub only : (k : ℕ) → has after k ≡ true → (has before k ≡ true) ⊎ HaveReader rows leaves k event
  pub kept : (k : ℕ) → has before k ≡ true → has after k ≡ true
  pub room : length after ≡ length before
  pub read : (query k : ℕ) → HaveLeaf rows leaves query k event → has (slice_index_or have query []) k ≡ true
  pub read_before : (query k : ℕ) → has before query ≡ true → has (slice_index_or had query []) k ≡ true → has (slice_index_or have query []) k ≡ true
  pub read_only : (query k : ℕ) → has after query ≡ true → has (slice_index_or have query []) k ≡ true → ((has before query ≡ true) × (has (slice_index_or had query []) k ≡ true)) ⊎ HaveLeaf rows leaves query k event
  pub rooms : map (λ (set : List Bool). length set) have ≡ map (λ (set : List Bool). length set) had
