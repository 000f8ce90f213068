-- What the rows of a run mark.
use Rattle.std.proofs.Common.{◌≡◌, ◌≢◌, refl, sym, ap, subst, ◌∙◌, ℕ, ◌+◌, ◌<◌, ◌⊎◌, inl, inr, Bool, true, false, ◌&&◌, ◌||◌, eqb, List, [], ◌∷◌, length, map, take, Some, slice_get, slice_index_or, Contains, arith}
use Rattle.std.proofs.lemmas.List.Elements.{filter-append, Contains-get_or}
use Rattle.std.proofs.lemmas.List.{take_more}
use Rattle.std.proofs.lemmas.Option.{get_or_from_slice_get}
use Rattle.cer_base.specs.Bits.{has}
use Rattle.stream_schema.specs.declared.Event.{Event}
use Rattle.query_leaves.specs.Shapes.{each_holds}
use Rattle.query_index.specs.declared.rows.LeafRow.{LeafRow}
use Rattle.query_index.specs.declared.rows.IndexedLeaf.{IndexedLeaf}
use Rattle.query_index.specs.declared.rows.TheConstants.{NONE}
use Rattle.query_index.specs.declared.index.Index.{Index}
use Rattle.query_index.specs.declared.shared_tests.SharedTest.{SharedTest}
use Rattle.query_index.specs.declared.shared_tests.SharingRow.{SharingRow}
use Rattle.query_index.specs.Rows.{is_awake, awake, IsRowBelow, Marks}
use Rattle.query_index.specs.Index.{CanMark}
use Rattle.query_index.specs.SharedTests.{IsSharing, AreSharing, HasFailing, IsMet, HasOneFailing, HasPlace}
use Rattle.query_index.proofs.Listed.{marks_row, marks_not, marks_none, marks_more, room_within}
use Rattle.query_index.proofs.Awake.{awake_first, asleep_first}
use Rattle.query_index.proofs.TestWords.{there, some_there, met_holds, failing_fails}

-- a row that is looked at, and whose leaf's tests hold
pub marks_sharing : (open_queries : List Bool) (leaves : List IndexedLeaf) (tests : List SharedTest) (r : LeafRow) (s : SharingRow) (failing : ℕ) (event : Event) (before after : List Bool) (had have : List (List Bool)) → IsSharing leaves tests r s → HasFailing tests failing event → (eqb s.waits NONE || has open_queries s.waits) ≡ true → IsMet s.mask failing → ((j : ℕ) → has after j ≡ (eqb j s.query || has before j)) → length after ≡ length before → ((k : ℕ) → has (slice_index_or have s.query []) k ≡ (eqb k s.number || (has before s.query && has (slice_index_or had s.query []) k))) → ((j : ℕ) → j ≢ s.query → slice_index_or have j [] ≡ slice_index_or had j []) → map (λ (set : List Bool). length set) have ≡ map (λ (set : List Bool). length set) had → Marks (awake open_queries (r ∷ [])) leaves event before after had have
marks_sharing open_queries leaves tests r s failing event before after had have h f is met members room set others rooms =
    subst (λ rs. Marks rs leaves event before after had have) (sym (awake_first open_queries r [] (ap (λ w. eqb w NONE || has open_queries w) (sym h.waits) ∙ is)))
    (marks_row r leaves event before after had have h.leaf h.at (met_holds tests s.mask failing h.leaf.tests event f h.mask met)
    (subst (λ q. (j : ℕ) → has after j ≡ (eqb j q || has before j)) h.query members) room
    (subst (λ n. (k : ℕ) → has (slice_index_or have h.leaf.query []) k ≡ (eqb k n || (has before h.leaf.query && has (slice_index_or had h.leaf.query []) k))) h.number
    (subst (λ q. (k : ℕ) → has (slice_index_or have q []) k ≡ (eqb k s.number || (has before q && has (slice_index_or had q []) k))) h.query set))
    (subst (λ q. (j : ℕ) → j ≢ q → slice_index_or have j [] ≡ slice_index_or had j []) h.query others) rooms)

-- one that is not, or one of whose tests fails
pub marks_no_sharing : (open_queries : List Bool) (leaves : List IndexedLeaf) (tests : List SharedTest) (r : LeafRow) (s : SharingRow) (failing : ℕ) (event : Event) (set : List Bool) (sets : List (List Bool)) → IsSharing leaves tests r s → HasFailing tests failing event → ((eqb s.waits NONE || has open_queries s.waits) ≡ false) ⊎ HasOneFailing s.mask failing → Marks (awake open_queries (r ∷ [])) leaves event set set sets sets
marks_no_sharing open_queries leaves tests r s failing event set sets h f none = by (is_awake open_queries r) refl
  where
    fails : is_awake open_queries r ≡ true → each_holds h.leaf.tests event ≡ false
    fails is = elim none [
      | inl asleep ↦ absurd (let both = sym is ∙ (ap (λ w. eqb w NONE || has open_queries w) (sym h.waits) ∙ asleep) in cc)
      | inr one ↦ failing_fails tests s.mask failing h.leaf.tests event f h.mask one
    ]

    by : (b : Bool) → is_awake open_queries r ≡ b → Marks (awake open_queries (r ∷ [])) leaves event set set sets sets
    by true e = subst (λ rs. Marks rs leaves event set set sets sets) (sym (awake_first open_queries r [] e)) (marks_not r leaves event set sets h.leaf h.at (fails e))
    by false e = subst (λ rs. Marks rs leaves event set set sets sets) (sym (asleep_first open_queries r [] e)) (marks_none leaves event set sets)

-- one row more
pub run_next : (open_queries : List Bool) (i : ℕ) (rows : List LeafRow) (e : LeafRow) (leaves : List IndexedLeaf) (event : Event) (before mid after : List Bool) (had half have : List (List Bool)) → i < length rows → Marks (awake open_queries (take i rows)) leaves event before mid had half → Marks (awake open_queries (slice_index_or rows i e ∷ [])) leaves event mid after half have → Marks (awake open_queries (take (i + 1) rows)) leaves event before after had have
run_next open_queries i rows e leaves event before mid after had half have inside was one =
    subst (λ rs. Marks rs leaves event before after had have)
    (sym (ap (awake open_queries) (take_more rows i e inside) ∙ filter-append (is_awake open_queries) (take i rows) (slice_index_or rows i e ∷ [])))
    (marks_more (awake open_queries (take i rows)) (awake open_queries (slice_index_or rows i e ∷ [])) leaves event before mid after had half have was one)

-- A row of the run by its number, and what is looked at of it.
pub record IsOfRun (leaves : List IndexedLeaf) (index : Index) (k : ℕ) (s : SharingRow) : Type 0 where
  pub row : LeafRow
  pub inside : k < length index.rows.items
  pub is : slice_index_or index.rows.items k row ≡ row
  pub sharing : IsSharing leaves index.shared.tests.items row s

of_run : (leaves : List IndexedLeaf) (index : Index) (list : List SharingRow) (k : ℕ) (e : SharingRow) → AreSharing leaves index.rows.items index.shared → list ≡ index.shared.rows.items → k < length list → IsOfRun leaves index k (slice_index_or list k e)
of_run leaves index list k e are same less = record {
  row = found.0;
  inside = inside;
  is = get_or_from_slice_get index.rows.items k found.0 found.0 found.1;
  sharing = are.each k found.0 (slice_index_or list k e) found.1 (subst (λ xs. slice_get xs k ≡ Some (slice_index_or list k e)) same (there list k e less));
}
  where
    own : k < length index.shared.rows.items
    own = subst (λ (xs : List SharingRow). k < length xs) same less

    inside : k < length index.rows.items
    inside = let c = are.count in let o = own in omega arith

    found : (r : LeafRow) × (slice_get index.rows.items k ≡ Some r)
    found = some_there index.rows.items k inside

-- the sets have room for it, where its leaf's tests hold
pub has_place : (index : Index) (event : Event) (failing k : ℕ) (list : List SharingRow) (e : SharingRow) (had into : List Bool) (before sets : List (List Bool)) → CanMark index event had before → HasFailing index.shared.tests.items failing event → list ≡ index.shared.rows.items → k < length list → length into ≡ length had → map (λ (set : List Bool). length set) sets ≡ map (λ (set : List Bool). length set) before → IsMet (slice_index_or list k e).mask failing → HasPlace (slice_index_or list k e) into sets
has_place index event failing k list e had into before sets can f same less room rooms met = record {
  query = subst (λ n. s.query < n) (sym room) (subst (λ q. q < length had) (sym (h.query ∙ (ap (λ (l : IndexedLeaf). l.query) leaf_is ∙ below.of.numbered))) below.below);
  number = subst (λ n. n < length (slice_index_or sets s.query [])) (sym h.number) (room_within index.rows.items index.rows.items can.leaves event before sets (λ r c. c) rooms can.room s.query h.leaf.number (record { row = one.row; listed = subst (Contains index.rows.items) one.is (Contains-get_or index.rows.items k one.row one.inside); leaf = h.leaf; at = h.at; numbered = sym h.query; holds = met_holds index.shared.tests.items s.mask failing h.leaf.tests event f h.mask met }, refl));
}
  where
    s : SharingRow
    s = slice_index_or list k e

    one : IsOfRun can.leaves index k s
    one = of_run can.leaves index list k e can.sharing same less

    h : IsSharing can.leaves index.shared.tests.items one.row s
    h = one.sharing

    below : IsRowBelow (length had) can.leaves one.row
    below = subst (IsRowBelow (length had) can.leaves) one.is (can.below k one.row one.inside)

    leaf_is : h.leaf ≡ below.of.leaf
    leaf_is = let both = sym h.at ∙ below.of.at in cc

-- and it marks what its row does
pub run_marked : (open_queries : List Bool) (index : Index) (list : List SharingRow) (k : ℕ) (e : SharingRow) (failing : ℕ) (event : Event) (leaves : List IndexedLeaf) (before mid after : List Bool) (had half have : List (List Bool)) → list ≡ index.shared.rows.items → k < length list → HasFailing index.shared.tests.items failing event → ((ls : List IndexedLeaf) (tests : List SharedTest) (r : LeafRow) (ev : Event) → IsSharing ls tests r (slice_index_or list k e) → HasFailing tests failing ev → Marks (awake open_queries (r ∷ [])) ls ev mid after half have) → AreSharing leaves index.rows.items index.shared → Marks (awake open_queries (take k index.rows.items)) leaves event before mid had half → Marks (awake open_queries (take (k + 1) index.rows.items)) leaves event before after had have
run_marked open_queries index list k e failing event leaves before mid after had half have same less f marks are was =
    let one = of_run leaves index list k e are same less in
    run_next open_queries k index.rows.items one.row leaves event before mid after had half have one.inside was
    (subst (λ r. Marks (awake open_queries (r ∷ [])) leaves event mid after half have) (sym one.is) (marks leaves index.shared.tests.items one.row event one.sharing f))
