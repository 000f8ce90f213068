-- Tests that the leaves of several rows ask for, of which each is tested once for an event.
use Rattle.std.specs.Prelude.{◌≡◌, ℕ, ◌<◌, Bool, true, false, List, [], length, map, Some, slice_get, slice_index_or}
use Rattle.cer_base.specs.Bits.{bit}
use Rattle.stream_schema.specs.declared.Event.{Event}
use Rattle.query_leaves.specs.declared.Test.{Test, No}
use Rattle.query_leaves.specs.Shapes.{test_holds, each_holds}
use Rattle.query_index.specs.declared.rows.LeafRow.{LeafRow}
use Rattle.query_index.specs.declared.rows.IndexedLeaf.{IndexedLeaf}
use Rattle.query_index.specs.declared.shared_tests.SharedTest.{SharedTest}
use Rattle.query_index.specs.declared.shared_tests.SharingRow.{SharingRow}
use Rattle.query_index.specs.declared.shared_tests.SharedTests.{SharedTests}

-- the test that is shared holds of the event
abbrev pub one_holds : SharedTest → Event → Bool
one_holds t event = test_holds (slice_index_or t.tests t.place No) event

-- two tests hold of the same events
abbrev pub HoldsAlike : Test → Test → Type 0
HoldsAlike test other = (event : Event) → test_holds test event ≡ test_holds other event

-- so do the tests of two lists, one by one
abbrev pub HoldAlike : List Test → List Test → Type 0
HoldAlike tests others = (event : Event) → map (λ t. test_holds t event) tests ≡ map (λ t. test_holds t event) others

-- The test is the one of this number, which has a bit.
pub record IsTestAt (tests : List SharedTest) (k : ℕ) (test : Test) : Type 0 where
  pub low : k < 64
  pub shared : SharedTest
  pub at : slice_get tests k ≡ Some shared
  pub same : (event : Event) → one_holds shared event ≡ test_holds test event

-- The tests that were there have their numbers still.
pub record HaveGrown (old new : List SharedTest) : Type 0 where
  pub kept : (k : ℕ) (t : SharedTest) → slice_get old k ≡ Some t → slice_get new k ≡ Some t

-- each test whose number is in the mask holds of the event
abbrev pub AllHold : List SharedTest → ℕ → Event → Type 0
AllHold tests mask event = (k : ℕ) (t : SharedTest) → bit mask k ≡ true → slice_get tests k ≡ Some t → one_holds t event ≡ true

-- The tests whose numbers are in the mask are those of the list: they hold of the same events.
pub record IsMask (tests : List SharedTest) (mask : ℕ) (list : List Test) : Type 0 where
  pub there : (k : ℕ) → bit mask k ≡ true → (k < 64) × (k < length tests)
  pub each : (event : Event) → AllHold tests mask event → each_holds list event ≡ true
  pub only : (event : Event) → each_holds list event ≡ true → AllHold tests mask event

-- The mask of what is looked at of the row tells exactly its leaf's tests, and the rest is the row's and its leaf's.
pub record IsSharing (leaves : List IndexedLeaf) (tests : List SharedTest) (row : LeafRow) (s : SharingRow) : Type 0 where
  pub leaf : IndexedLeaf
  pub at : slice_get leaves row.leaf ≡ Some leaf
  pub mask : IsMask tests s.mask leaf.tests
  pub waits : s.waits ≡ row.waits
  pub query : s.query ≡ leaf.query
  pub number : s.number ≡ leaf.number

-- That is so of each of the rows.
pub record AreSharing (leaves : List IndexedLeaf) (rows : List LeafRow) (shared : SharedTests) : Type 0 where
  pub count : length shared.rows.items ≡ length rows
  pub each : (k : ℕ) (r : LeafRow) (s : SharingRow) → slice_get rows k ≡ Some r → slice_get shared.rows.items k ≡ Some s → IsSharing leaves shared.tests.items r s

-- The bits of the word are the numbers of the tests that do not hold of the event.
pub record HasFailing (tests : List SharedTest) (failing : ℕ) (event : Event) : Type 0 where
  pub fails : (k : ℕ) → bit failing k ≡ true → (t : SharedTest) × (slice_get tests k ≡ Some t) × (one_holds t event ≡ false)
  pub holds : (k : ℕ) (t : SharedTest) → k < 64 → slice_get tests k ≡ Some t → bit failing k ≡ false → one_holds t event ≡ true

-- no number of the mask is that of a test that fails
abbrev pub IsMet : ℕ → ℕ → Type 0
IsMet mask failing = (k : ℕ) → bit mask k ≡ true → bit failing k ≡ false

-- one is
abbrev pub HasOneFailing : ℕ → ℕ → Type 0
HasOneFailing mask failing = (k : ℕ) × (bit mask k ≡ true) × (bit failing k ≡ true)

-- The query and the leaf of the row have room in the set and in the query's set.
pub record HasPlace (s : SharingRow) (into : List Bool) (sets : List (List Bool)) : Type 0 where
  pub query : s.query < length into
  pub number : s.number < length (slice_index_or sets s.query [])
