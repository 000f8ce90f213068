-- Rows that are put into buckets, and looked at by them.
use Rattle.std.proofs.Common.{◌≡◌, refl, sym, ap, subst, ◌∙◌, ℕ, zero, suc, ◌+◌, ◌<◌, ◌≤◌, inl, inr, ℤ, ◌≤ℤ◌, Bool, false, List, [], ◌∷◌, ◌++◌, length, length-drop, map, take, drop, Some, Result, Ok, Err, IfOk, Vec, slice_get, slice_index_or, Contains, All, arith}
use Rattle.std.specs.declared.alloc.Global.{Global}
use Rattle.std.proofs.lemmas.Bool.{false≢true, cases_lt}
use Rattle.std.proofs.lemmas.List.Elements.{All-push, Contains-append_left, Contains-append_right, Contains-append_cases, Contains-push, Contains-push_cases, Contains-get_or}
use Rattle.std.proofs.lemmas.List.{take_more, take_all}
use Rattle.std.proofs.lemmas.Option.{slice_get_within, get_or_from_slice_get}
use Rattle.cer_base.specs.declared.Memory.{Memory}
use Rattle.stream_schema.specs.declared.Kind.{Kind}
use Rattle.stream_schema.specs.declared.Event.{Event}
use Rattle.stream_schema.specs.declared.Value.{Value}
use Rattle.query_leaves.specs.declared.Test.{Test}
use Rattle.query_leaves.specs.Shapes.{each_holds}
use Rattle.predicate_bits.specs.Spans.{IsNumbered}
use Rattle.query_index.specs.declared.rows.LeafRow.{LeafRow}
use Rattle.query_index.specs.declared.rows.IndexedLeaf.{IndexedLeaf}
use Rattle.query_index.specs.declared.buckets.Bucket.{Bucket}
use Rattle.query_index.specs.declared.index.Index.{Index}
use Rattle.query_index.specs.SharedTests.{AreSharing}
use Rattle.query_index.specs.Rows.{rows_of, IsRowBelow, HaveReader, HaveRoom, Marks}
use Rattle.query_index.proofs.Listed.{room_within, marks_more}
use Rattle.query_index.specs.declared.shared_tests.SharingRow.{SharingRow}
use Rattle.query_index.specs.declared.shared_tests.SharedTests.{SharedTests}
use Rattle.query_index.specs.Index.{IsBucket, AreBuckets, AreShared, IsIndex, gathered, HaveSame, HasTaken, AreSplit, AreIndexes, indexes_of, AreIndexed, Suffice}

-- a leaf whose tests hold of no such event
pub apart_from : (leaves : List IndexedLeaf) (k : ℕ) (found leaf : IndexedLeaf) (read : List Test) (event : Event) → Some found ≡ slice_get leaves k → read ≡ found.tests → each_holds read event ≡ false → slice_get leaves k ≡ Some leaf → each_holds leaf.tests event ≡ false
apart_from leaves k found leaf read event at is none there =
    let same : found ≡ leaf = (let both = at ∙ there in cc) in
    ap (λ (l : IndexedLeaf). each_holds l.tests event) (sym same) ∙ (ap (λ ts. each_holds ts event) (sym is) ∙ none)

-- one bucket more
pub buckets_next : (rows : List LeafRow) (leaves : List IndexedLeaf) (place : ℕ) (kind : Kind) (first buckets new : List Bucket) (bucket : Bucket) → new ≡ buckets ++ bucket ∷ [] → (AreBuckets rows leaves place kind first → AreBuckets rows leaves place kind buckets) → IsBucket rows leaves place kind bucket → AreBuckets rows leaves place kind first → AreBuckets rows leaves place kind new
buckets_next rows leaves place kind first buckets new bucket put all one was = subst (AreBuckets rows leaves place kind) (sym put) (All-push (IsBucket rows leaves place kind) buckets bucket (all was) one)

-- rows that are parted in two
pub split_none : AreSplit [] [] []
split_none = record { taken_within = λ r h. h; left_within = λ r h. h; each = λ r h. inl h }

pub split_taken : (rows : List LeafRow) (k : ℕ) (d : LeafRow) (taken left new : List LeafRow) → k < length rows → new ≡ taken ++ slice_index_or rows k d ∷ [] → AreSplit (take k rows) taken left → AreSplit (take (k + 1) rows) new left
split_taken rows k d taken left new inside put h = subst (λ xs. AreSplit xs new left) (sym (take_more rows k d inside)) (subst (λ xs. AreSplit (take k rows ++ row ∷ []) xs left) (sym put) (record {
  taken_within = λ r i. elim (Contains-push_cases taken row r i) [
    | inl was ↦ Contains-append_left (take k rows) (row ∷ []) r (h.taken_within r was)
    | inr one ↦ subst (Contains (take k rows ++ row ∷ [])) one (Contains-push (take k rows) row)
  ];
  left_within = λ r i. Contains-append_left (take k rows) (row ∷ []) r (h.left_within r i);
  each = λ r i. elim (Contains-push_cases (take k rows) row r i) [
    | inl was ↦ elim (h.each r was) [
      | inl there ↦ inl (Contains-append_left taken (row ∷ []) r there)
      | inr there ↦ inr there
    ]
    | inr one ↦ inl (subst (Contains (taken ++ row ∷ [])) one (Contains-push taken row))
  ];
}))
  where
    row : LeafRow
    row = slice_index_or rows k d

pub split_left : (rows : List LeafRow) (k : ℕ) (d : LeafRow) (taken left new : List LeafRow) → k < length rows → new ≡ left ++ slice_index_or rows k d ∷ [] → AreSplit (take k rows) taken left → AreSplit (take (k + 1) rows) taken new
split_left rows k d taken left new inside put h = subst (λ xs. AreSplit xs taken new) (sym (take_more rows k d inside)) (subst (AreSplit (take k rows ++ row ∷ []) taken) (sym put) (record {
  taken_within = λ r i. Contains-append_left (take k rows) (row ∷ []) r (h.taken_within r i);
  left_within = λ r i. elim (Contains-push_cases left row r i) [
    | inl was ↦ Contains-append_left (take k rows) (row ∷ []) r (h.left_within r was)
    | inr one ↦ subst (Contains (take k rows ++ row ∷ [])) one (Contains-push (take k rows) row)
  ];
  each = λ r i. elim (Contains-push_cases (take k rows) row r i) [
    | inl was ↦ elim (h.each r was) [
      | inl there ↦ inl there
      | inr there ↦ inr (Contains-append_left left (row ∷ []) r there)
    ]
    | inr one ↦ inr (subst (Contains (left ++ row ∷ [])) one (Contains-push left row))
  ];
}))
  where
    row : LeafRow
    row = slice_index_or rows k d

pub split_all : (rows : List LeafRow) (k : ℕ) (taken left : List LeafRow) → length rows ≤ k → AreSplit (take k rows) taken left → AreSplit rows taken left
split_all rows k taken left end h = subst (λ xs. AreSplit xs taken left) (take_all k rows end) h

-- the rows of one index more
pub gathered_push : (indexes : List Index) (index : Index) → gathered (indexes ++ index ∷ []) ≡ gathered indexes ++ index.rows.items
gathered_push [] index = append_none index.rows.items
  where
    append_none : (xs : List LeafRow) → xs ++ [] ≡ [] ++ xs
    append_none [] = refl
    append_none (x ∷ xs) = ap (λ ys. x ∷ ys) (append_none xs)
gathered_push (i ∷ indexes) index = ap (λ xs. i.rows.items ++ xs) (gathered_push indexes index) ∙ sym (bracket i.rows.items (gathered indexes) index.rows.items)
  where
    bracket : (xs ys zs : List LeafRow) → (xs ++ ys) ++ zs ≡ xs ++ (ys ++ zs)
    bracket [] ys zs = refl
    bracket (x ∷ xs) ys zs = ap (λ ws. x ∷ ws) (bracket xs ys zs)

-- before any rows are taken out
pub same_first : (list left : List LeafRow) → left ≡ list → HaveSame list (gathered [] ++ left)
same_first list left is = subst (HaveSame list) (sym is) (record { within = λ r h. h; each = λ r h. h })

-- rows that go from those that are left to an index
pub same_next : (list left taken rest : List LeafRow) (indexes new : List Index) (index : Index) → new ≡ indexes ++ index ∷ [] → index.rows.items ≡ taken → AreSplit left taken rest → HaveSame list (gathered indexes ++ left) → HaveSame list (gathered new ++ rest)
same_next list left taken rest indexes new index put is parts h = subst (λ xs. HaveSame list (gathered xs ++ rest)) (sym put) (subst (λ xs. HaveSame list (xs ++ rest)) (sym (gathered_push indexes index)) (subst (λ xs. HaveSame list ((gathered indexes ++ xs) ++ rest)) (sym is) (record {
  within = λ r i. h.within r (elim (Contains-append_cases (gathered indexes ++ taken) rest r i) [
    | inl early ↦ elim (Contains-append_cases (gathered indexes) taken r early) [
      | inl was ↦ Contains-append_left (gathered indexes) left r was
      | inr one ↦ Contains-append_right (gathered indexes) left r (parts.taken_within r one)
    ]
    | inr late ↦ Contains-append_right (gathered indexes) left r (parts.left_within r late)
  ]);
  each = λ r i. elim (Contains-append_cases (gathered indexes) left r (h.each r i)) [
    | inl was ↦ Contains-append_left (gathered indexes ++ taken) rest r (Contains-append_left (gathered indexes) taken r was)
    | inr there ↦ elim (parts.each r there) [
      | inl one ↦ Contains-append_left (gathered indexes ++ taken) rest r (Contains-append_right (gathered indexes) taken r one)
      | inr late ↦ Contains-append_right (gathered indexes ++ taken) rest r late
    ]
  ];
})))

pub each_next : (leaves : List IndexedLeaf) (indexes new : List Index) (index : Index) → new ≡ indexes ++ index ∷ [] → IsIndex leaves index → All (IsIndex leaves) indexes → All (IsIndex leaves) new
each_next leaves indexes new index put one all = subst (All (IsIndex leaves)) (sym put) (All-push (IsIndex leaves) indexes index all one)

-- and rows that are left
pub rest_some : (indexes new : List Index) (left : List LeafRow) (index : Index) → new ≡ indexes ++ index ∷ [] → index.rows.items ≡ left → ((leaves : List IndexedLeaf) → IsIndex leaves index) → (leaves : List IndexedLeaf) (list : List LeafRow) → All (IsIndex leaves) indexes → HaveSame list (gathered indexes ++ left) → AreIndexes leaves list new
rest_some indexes new left index put is made leaves list each same = record {
  rows = subst (λ xs. HaveSame list (gathered xs)) (sym put) (subst (HaveSame list) (sym (gathered_push indexes index)) (subst (λ xs. HaveSame list (gathered indexes ++ xs)) (sym is) same));
  each = each_next leaves indexes new index put (made leaves) each;
}

pub rest_told : (result : Result (Vec Index Global) Memory) (leaves : List IndexedLeaf) (list : List LeafRow) (indexes : List Index) (left : List LeafRow) → All (IsIndex leaves) indexes → HaveSame list (gathered indexes ++ left) → IfOk result (λ all. (ls : List IndexedLeaf) (xs : List LeafRow) → All (IsIndex ls) indexes → HaveSame xs (gathered indexes ++ left) → AreIndexes ls xs all.items) → IfOk result (λ all. AreIndexes leaves list all.items)
rest_told (Ok all) leaves list indexes left each same h = h leaves list each same
rest_told (Err stop) leaves list indexes left each same h = h

-- The indexes of the first so many types.
pub record AreIndexedTo (k : ℕ) (leaves : List IndexedLeaf) (rows : List (List LeafRow)) (indexes : List (List Index)) : Type 0 where
  pub count : length indexes ≡ k
  pub are : (ty : ℕ) → ty < k → AreIndexes leaves (slice_index_or rows ty []) (slice_index_or indexes ty [])

pub indexed_none : (leaves : List IndexedLeaf) (rows : List (List LeafRow)) (vs : List (Vec Index Global)) → vs ≡ [] → AreIndexedTo 0 leaves rows (indexes_of vs)
indexed_none leaves rows vs none = record {
  count = ap (λ (xs : List (Vec Index Global)). length (indexes_of xs)) none;
  are = λ ty less. absurd (omega arith);
}

list_at : (vs : List (Vec LeafRow Global)) (k : ℕ) (d : Vec LeafRow Global) → k < length vs → slice_index_or (rows_of vs) k [] ≡ (slice_index_or vs k d).items
list_at [] k d inside = absurd (omega arith)
list_at (v ∷ vs) zero d inside = refl
list_at (v ∷ vs) (suc k) d inside = list_at vs k d (omega arith)

pushed : (vs : List (Vec Index Global)) (v : Vec Index Global) → indexes_of (vs ++ v ∷ []) ≡ indexes_of vs ++ v.items ∷ []
pushed [] v = refl
pushed (w ∷ vs) v = ap (λ xs. w.items ∷ xs) (pushed vs v)

one_longer : (xs : List (List Index)) (x : List Index) → length (xs ++ x ∷ []) ≡ length xs + 1
one_longer [] x = refl
one_longer (y ∷ xs) x = let rest = one_longer xs x in omega arith

at_last : (xs : List (List Index)) (x : List Index) (k : ℕ) → k ≡ length xs → slice_index_or (xs ++ x ∷ []) k [] ≡ x
at_last [] x zero is = refl
at_last [] x (suc k) is = absurd (omega arith)
at_last (y ∷ xs) x zero is = absurd (omega arith)
at_last (y ∷ xs) x (suc k) is = at_last xs x k (omega arith)

at_before : (xs : List (List Index)) (x : List Index) (k : ℕ) → k < length xs → slice_index_or (xs ++ x ∷ []) k [] ≡ slice_index_or xs k []
at_before [] x k less = absurd (omega arith)
at_before (y ∷ xs) x zero less = refl
at_before (y ∷ xs) x (suc k) less = at_before xs x k (omega arith)

pub indexed_next : (leaves : List IndexedLeaf) (vs : List (Vec LeafRow Global)) (k : ℕ) (v : Vec LeafRow Global) (list : List LeafRow) (is new : List (Vec Index Global)) (one : Vec Index Global) → k < length vs → v ≡ slice_index_or vs k v → list ≡ v.items → new ≡ is ++ one ∷ [] → AreIndexes leaves list one.items → AreIndexedTo k leaves (rows_of vs) (indexes_of is) → AreIndexedTo (k + 1) leaves (rows_of vs) (indexes_of new)
indexed_next leaves vs k v list is new one inside at read put made h = subst (λ xs. AreIndexedTo (k + 1) leaves (rows_of vs) xs) (sym (ap (λ xs. indexes_of xs) put ∙ pushed is one)) (record {
  count = (let long = one_longer (indexes_of is) one.items in let was = h.count in omega arith);
  are = λ ty less. elim (cases_lt ty k) [
    | inl early ↦ subst (AreIndexes leaves (slice_index_or (rows_of vs) ty [])) (sym (at_before (indexes_of is) one.items ty (let was = h.count in omega arith))) (h.are ty early)
    | inr late ↦ (
        let same : k ≡ ty = omega arith in
        subst (λ n. AreIndexes leaves (slice_index_or (rows_of vs) n []) (slice_index_or (indexes_of is ++ one.items ∷ []) n [])) same
        (subst (λ xs. AreIndexes leaves xs (slice_index_or (indexes_of is ++ one.items ∷ []) k [])) (read ∙ (ap (λ (x : Vec LeafRow Global). x.items) at ∙ sym (list_at vs k v inside)))
        (subst (AreIndexes leaves list) (sym (at_last (indexes_of is) one.items k (sym h.count))) made))
        )
  ];
})

past_rows : (xs : List (List LeafRow)) (k : ℕ) → length xs ≤ k → slice_index_or xs k [] ≡ []
past_rows [] k less = refl
past_rows (x ∷ xs) zero less = absurd (omega arith)
past_rows (x ∷ xs) (suc k) less = past_rows xs k (omega arith)

past_indexes : (xs : List (List Index)) (k : ℕ) → length xs ≤ k → slice_index_or xs k [] ≡ []
past_indexes [] k less = refl
past_indexes (x ∷ xs) zero less = absurd (omega arith)
past_indexes (x ∷ xs) (suc k) less = past_indexes xs k (omega arith)

as_many : (vs : List (Vec LeafRow Global)) → length (rows_of vs) ≡ length vs
as_many [] = refl
as_many (v ∷ vs) = ap suc (as_many vs)

no_indexes : (leaves : List IndexedLeaf) → AreIndexes leaves [] []
no_indexes leaves = record { rows = record { within = λ r h. h; each = λ r h. h }; each = λ k d less. absurd (omega arith) }

pub indexed_all : (leaves : List IndexedLeaf) (vs : List (Vec LeafRow Global)) (k : ℕ) (is : List (Vec Index Global)) → length vs ≤ k → AreIndexedTo k leaves (rows_of vs) (indexes_of is) → AreIndexed leaves (rows_of vs) (indexes_of is)
indexed_all leaves vs k is end h ty = elim (cases_lt ty k) [
  | inl early ↦ h.are ty early
  | inr late ↦ (
      let many = as_many vs in
      let was = h.count in
      subst (λ xs. AreIndexes leaves xs (slice_index_or (indexes_of is) ty [])) (sym (past_rows (rows_of vs) ty (omega arith)))
      (subst (AreIndexes leaves []) (sym (past_indexes (indexes_of is) ty (omega arith))) (no_indexes leaves))
      )
]

-- the rows of the bucket of an event's value suffice for it
pub suffice_in : (leaves : List IndexedLeaf) (index : Index) (buckets : List Bucket) (k : ℕ) (bucket : Bucket) (event : Event) (v : Value) (number : ℤ) (some : List LeafRow) → IsIndex leaves index → buckets ≡ index.buckets.items → slice_get buckets k ≡ Some bucket → slice_get event.values index.place ≡ Some v → IsNumbered index.kind v number → bucket.low ≤ℤ number → number ≤ℤ bucket.high → some ≡ bucket.rows.items → Suffice leaves index.rows.items event some
suffice_in leaves index buckets k bucket event v number some is same at there numbered low high read = subst (Suffice leaves index.rows.items event) (sym read) (record {
  within = here.within;
  others = λ r i. here.others r i event (v, there, (number, numbered, low, high));
})
  where
    at_index : slice_get index.buckets.items k ≡ Some bucket
    at_index = subst (λ bs. slice_get bs k ≡ Some bucket) same at

    here : IsBucket index.rows.items leaves index.place index.kind bucket
    here = subst (IsBucket index.rows.items leaves index.place index.kind) (get_or_from_slice_get index.buckets.items k bucket bucket at_index) (is.buckets k bucket (slice_get_within index.buckets.items k bucket at_index))

-- and so do all of them
pub suffice_all : (leaves : List IndexedLeaf) (list some : List LeafRow) (event : Event) → some ≡ list → Suffice leaves list event some
suffice_all leaves list some event is = subst (Suffice leaves list event) (sym is) (record { within = λ r h. h; others = λ r h. inl h })

-- What the rows that suffice mark is what all rows do.
pub marks_sufficed : (list some : List LeafRow) (leaves : List IndexedLeaf) (event : Event) (before after : List Bool) (had have : List (List Bool)) → Suffice leaves list event some → Marks some leaves event before after had have → Marks list leaves event before after had have
marks_sufficed list some leaves event before after had have s m = record {
  marked = λ k h. m.marked k (there k h);
  only = λ k is. elim (m.only k is) [
    | inl was ↦ inl was
    | inr h ↦ inr (within k h)
  ];
  kept = m.kept;
  room = m.room;
  read = λ query k h. m.read query k (there query h.0, there_number query h.0 ∙ h.1);
  read_before = m.read_before;
  read_only = λ query k is now. elim (m.read_only query k is now) [
    | inl was ↦ inl was
    | inr h ↦ inr (within query h.0, h.1)
  ];
  rooms = m.rooms;
}
  where
    within : (k : ℕ) → HaveReader some leaves k event → HaveReader list leaves k event
    within k h = record { row = h.row; listed = s.within h.row h.listed; leaf = h.leaf; at = h.at; numbered = h.numbered; holds = h.holds }

    listed_there : (k : ℕ) (h : HaveReader list leaves k event) → Contains some h.row
    listed_there k h = elim (s.others h.row h.listed) [ inl here ↦ here | inr none ↦ absurd (false≢true (sym (none h.leaf h.at) ∙ h.holds)) ]

    there : (k : ℕ) → HaveReader list leaves k event → HaveReader some leaves k event
    there k h = record { row = h.row; listed = listed_there k h; leaf = h.leaf; at = h.at; numbered = h.numbered; holds = h.holds }

    there_number : (k : ℕ) (h : HaveReader list leaves k event) → (there k h).leaf.number ≡ h.leaf.number
    there_number k h = refl

-- rows among others are of queries below the number, as these are
pub below_within : (list some : List LeafRow) (leaves : List IndexedLeaf) (count : ℕ) → ((r : LeafRow) → Contains some r → Contains list r) → All (IsRowBelow count leaves) list → All (IsRowBelow count leaves) some
below_within list some leaves count within below k d inside =
    let i = within (slice_index_or some k d) (Contains-get_or some k d inside) in
    subst (IsRowBelow count leaves) i.2 (below i.0 _ i.1)

-- the rows of an index are among those of all
pub in_gathered : (indexes : List Index) (k : ℕ) (d : Index) → k < length indexes → (r : LeafRow) → Contains (slice_index_or indexes k d).rows.items r → Contains (gathered indexes) r
in_gathered [] k d inside r h = absurd (omega arith)
in_gathered (i ∷ indexes) zero d inside r h = Contains-append_left i.rows.items (gathered indexes) r h
in_gathered (i ∷ indexes) (suc k) d inside r h = Contains-append_right i.rows.items (gathered indexes) r (in_gathered indexes k d (omega arith) r h)

-- of one index more
pub marked_next : (indexes : List Index) (k : ℕ) (d : Index) (leaves : List IndexedLeaf) (event : Event) (before mid after : List Bool) (had half have : List (List Bool)) → k < length indexes → Marks (gathered (take k indexes)) leaves event before mid had half → Marks (slice_index_or indexes k d).rows.items leaves event mid after half have → Marks (gathered (take (k + 1) indexes)) leaves event before after had have
marked_next indexes k d leaves event before mid after had half have inside a b =
    subst (λ xs. Marks (gathered xs) leaves event before after had have) (sym (take_more indexes k d inside))
    (subst (λ xs. Marks xs leaves event before after had have) (sym (gathered_push (take k indexes) (slice_index_or indexes k d)))
    (marks_more (gathered (take k indexes)) (slice_index_or indexes k d).rows.items leaves event before mid after had half have a b))

pub marked_all : (indexes : List Index) (k : ℕ) (leaves : List IndexedLeaf) (event : Event) (before after : List Bool) (had have : List (List Bool)) → length indexes ≤ k → Marks (gathered (take k indexes)) leaves event before after had have → Marks (gathered indexes) leaves event before after had have
marked_all indexes k leaves event before after had have end h = subst (λ xs. Marks (gathered xs) leaves event before after had have) (take_all k indexes end) h

-- rows that are the same suffice
pub same_suffice : (leaves : List IndexedLeaf) (list rows : List LeafRow) (event : Event) → HaveSame list rows → Suffice leaves list event rows
same_suffice leaves list rows event h = record { within = h.within; others = λ r i. inl (h.each r i) }

-- an index that is looked at, and what suffices of it
pub index_suffices : (indexes : List Index) (k : ℕ) (x : Index) (leaves : List IndexedLeaf) (event : Event) (few : List LeafRow) → k < length indexes → x ≡ slice_index_or indexes k x → All (IsIndex leaves) indexes → ((ls : List IndexedLeaf) → IsIndex ls x → Suffice ls x.rows.items event few) → Suffice leaves (slice_index_or indexes k x).rows.items event few
index_suffices indexes k x leaves event few inside is each h = subst (λ (i : Index). Suffice leaves i.rows.items event few) is (h leaves (subst (IsIndex leaves) (sym is) (each k x inside)))

pub few_below : (indexes : List Index) (k : ℕ) (x : Index) (leaves : List IndexedLeaf) (event : Event) (few : List LeafRow) (count room : ℕ) → k < length indexes → x ≡ slice_index_or indexes k x → All (IsIndex leaves) indexes → ((ls : List IndexedLeaf) → IsIndex ls x → Suffice ls x.rows.items event few) → All (IsRowBelow count leaves) (gathered indexes) → room ≡ count → All (IsRowBelow room leaves) few
few_below indexes k x leaves event few count room inside is each h below same = subst (λ n. All (IsRowBelow n leaves) few) (sym same) (below_within (gathered indexes) few leaves count (λ r i. in_gathered indexes k x inside r ((index_suffices indexes k x leaves event few inside is each h).within r i)) below)

pub few_room : (indexes : List Index) (k : ℕ) (x : Index) (leaves : List IndexedLeaf) (event : Event) (few : List LeafRow) (had have : List (List Bool)) → k < length indexes → x ≡ slice_index_or indexes k x → All (IsIndex leaves) indexes → ((ls : List IndexedLeaf) → IsIndex ls x → Suffice ls x.rows.items event few) → map (λ (s : List Bool). length s) have ≡ map (λ (s : List Bool). length s) had → HaveRoom (gathered indexes) leaves event had → HaveRoom few leaves event have
few_room indexes k x leaves event few had have inside is each h same room = room_within (gathered indexes) few leaves event had have (λ r i. in_gathered indexes k x inside r ((index_suffices indexes k x leaves event few inside is each h).within r i)) same room

-- a run of no rows tells nothing
pub nothing_told : (leaves : List IndexedLeaf) (rows : List LeafRow) (shared : SharedTests) → shared.rows.items ≡ [] → AreShared leaves rows shared
nothing_told leaves rows shared none some = absurd (let n = ap (λ (xs : List SharingRow). length xs) none in omega arith)

-- the index of one run more
pub run_put : (indexes new : List Index) (index : Index) (rows : List LeafRow) → new ≡ indexes ++ index ∷ [] → index.rows.items ≡ rows → gathered new ≡ gathered indexes ++ rows
run_put indexes new index rows put is = ap (λ xs. gathered xs) put ∙ (gathered_push indexes index ∙ ap (λ xs. gathered indexes ++ xs) is)

-- the rows of a run, which are the first ones
pub run_taken : (leaves : List IndexedLeaf) (rows : List LeafRow) (count : ℕ) (old new : List Index) (plain : List LeafRow) (shared : SharedTests) → 0 < count → count ≤ length rows → gathered new ≡ gathered old ++ take count rows → (AreShared leaves (take count rows) shared → All (IsIndex leaves) old → All (IsIndex leaves) new) → AreSharing leaves (take count rows) shared → HasTaken leaves rows count old new plain plain
run_taken leaves rows count old new plain shared some inside put each are = record {
  some = some;
  inside = inside;
  same = λ list h. subst (λ xs. HaveSame (list ++ take count rows) (xs ++ plain)) (sym put) (record {
    within = λ r i. elim (Contains-append_cases (gathered old ++ take count rows) plain r i) [
      | inl early ↦ elim (Contains-append_cases (gathered old) (take count rows) r early) [
        | inl was ↦ Contains-append_left list (take count rows) r (h.within r (Contains-append_left (gathered old) plain r was))
        | inr one ↦ Contains-append_right list (take count rows) r one
      ]
      | inr late ↦ Contains-append_left list (take count rows) r (h.within r (Contains-append_right (gathered old) plain r late))
    ];
    each = λ r i. elim (Contains-append_cases list (take count rows) r i) [
      | inl was ↦ elim (Contains-append_cases (gathered old) plain r (h.each r was)) [
        | inl early ↦ Contains-append_left (gathered old ++ take count rows) plain r (Contains-append_left (gathered old) (take count rows) r early)
        | inr late ↦ Contains-append_right (gathered old ++ take count rows) plain r late
      ]
      | inr one ↦ Contains-append_left (gathered old ++ take count rows) plain r (Contains-append_right (gathered old) (take count rows) r one)
    ];
  });
  each = each (λ some_told. are);
}

-- rows that stand in no run
pub plain_taken : (leaves : List IndexedLeaf) (rows : List LeafRow) (count : ℕ) (indexes : List Index) (had have : List LeafRow) → 0 < count → count ≤ length rows → have ≡ had ++ take count rows → HasTaken leaves rows count indexes indexes had have
plain_taken leaves rows count indexes had have some inside put = record {
  some = some;
  inside = inside;
  same = λ list h. subst (λ xs. HaveSame (list ++ take count rows) (gathered indexes ++ xs)) (sym put) (record {
    within = λ r i. elim (Contains-append_cases (gathered indexes) (had ++ take count rows) r i) [
      | inl early ↦ Contains-append_left list (take count rows) r (h.within r (Contains-append_left (gathered indexes) had r early))
      | inr late ↦ elim (Contains-append_cases had (take count rows) r late) [
        | inl was ↦ Contains-append_left list (take count rows) r (h.within r (Contains-append_right (gathered indexes) had r was))
        | inr one ↦ Contains-append_right list (take count rows) r one
      ]
    ];
    each = λ r i. elim (Contains-append_cases list (take count rows) r i) [
      | inl was ↦ elim (Contains-append_cases (gathered indexes) had r (h.each r was)) [
        | inl early ↦ Contains-append_left (gathered indexes) (had ++ take count rows) r early
        | inr late ↦ Contains-append_right (gathered indexes) (had ++ take count rows) r (Contains-append_left had (take count rows) r late)
      ]
      | inr one ↦ Contains-append_right (gathered indexes) (had ++ take count rows) r (Contains-append_right had (take count rows) r one)
    ];
  });
  each = λ all. all;
}

-- more of the rows are taken
take_further : (rows : List LeafRow) (from count : ℕ) → take (from + count) rows ≡ take from rows ++ take count (drop from rows)
take_further rows zero count =
    let none : zero + count ≡ count = omega arith in
    ap (λ n. take n rows) none
take_further [] (suc from) count = nothing (suc from + count) ∙ sym (nothing count)
  where
    none : List LeafRow
    none = []

    nothing : (n : ℕ) → take n none ≡ none
    nothing zero = refl
    nothing (suc n) = refl
take_further (r ∷ rows) (suc from) count =
    let more : suc from + count ≡ suc (from + count) = omega arith in
    ap (λ n. take n (r ∷ rows)) more ∙ ap (λ xs. r ∷ xs) (take_further rows from count)

pub taken_further : (leaves : List IndexedLeaf) (rows rest : List LeafRow) (from count : ℕ) (first old new : List Index) (had have : List LeafRow) → rest ≡ drop from rows → from ≤ length rows → HasTaken leaves rest count old new had have → HaveSame (gathered first ++ take from rows) (gathered old ++ had) → (from + count ≤ length rows) × HaveSame (gathered first ++ take (from + count) rows) (gathered new ++ have)
taken_further leaves rows rest from count first old new had have is within h same = (
  (let a = subst (λ (xs : List LeafRow). count ≤ length xs) is h.inside in let b = length-drop from rows in omega arith),
  subst (λ xs. HaveSame (gathered first ++ xs) (gathered new ++ have)) (sym (take_further rows from count))
      (subst (λ xs. HaveSame xs (gathered new ++ have)) (bracket (gathered first) (take from rows) (take count (drop from rows)))
      (subst (λ xs. HaveSame ((gathered first ++ take from rows) ++ take count xs) (gathered new ++ have)) is (h.same (gathered first ++ take from rows) same))),
)
  where
    bracket : (xs ys zs : List LeafRow) → (xs ++ ys) ++ zs ≡ xs ++ (ys ++ zs)
    bracket [] ys zs = refl
    bracket (x ∷ xs) ys zs = ap (λ ws. x ∷ ws) (bracket xs ys zs)

-- and all of them
pub same_through : (list rows mid : List LeafRow) → HaveSame mid rows → HaveSame list mid → HaveSame list rows
same_through list rows mid one h = record { within = λ r i. h.within r (one.within r i); each = λ r i. one.each r (h.each r i) }
