-- Rows that are put in, and looked at.
use Rattle.std.proofs.Common.{◌≡◌, ◌≢◌, refl, sym, ap, subst, ◌∙◌, ℕ, zero, suc, ◌+◌, ◌<◌, ◌≤◌, ◌⊎◌, inl, inr, Bool, true, false, ◌&&◌, ◌||◌, if◌then◌else◌, eqb, List, [], ◌∷◌, ◌++◌, length, map, length-append, length-take-le, nat_lt, not, take, Option, Some, IfSome, Vec, slice_get, slice_index_or, slice_set, Contains, All, arith}
use Rattle.std.specs.declared.alloc.Global.{Global}
use Rattle.std.proofs.lemmas.Bool.{cases_lt, cases_eq, eq-eqb, eqb-true, false≢true, and_parts, or_cases, or_left, or_right}
use Rattle.std.proofs.lemmas.List.Elements.{Contains-append_left, Contains-append_right, Contains-append_cases, Contains-push, Contains-push_cases, Contains-get_or}
use Rattle.std.proofs.lemmas.List.{take_more, take_all, length_push}
use Rattle.std.proofs.lemmas.Option.{slice_get_within, slice_get-get_or, get_or_from_slice_get}
use Rattle.cer_base.specs.Bits.{has}
use Rattle.stream_schema.specs.Types.{Declared}
use Rattle.stream_schema.specs.declared.Event.{Event}
use Rattle.cel_terms.specs.declared.Query.{Query}
use Rattle.query_leaves.specs.declared.Leaf.{Leaf}
use Rattle.query_leaves.specs.declared.Test.{Test}
use Rattle.query_leaves.specs.Expand.{Occurrence, tree_of}
use Rattle.query_leaves.specs.Leaves.{occurrences, occurrence_reads}
use Rattle.query_leaves.specs.Shapes.{each_holds, leaf_reads, IsLeafOf, AreLeavesOf}
use Rattle.cea_compile.specs.Compiled.{automaton_of}
use Rattle.predicate_bits.specs.declared.ranges.Range.{Range}
use Rattle.predicate_bits.specs.declared.checks.Check.{Check}
use Rattle.predicate_bits.specs.Ranges.{AsksFor}
use Rattle.predicate_bits.specs.Checks.{all_checks_hold, ComesTo}
use Rattle.query_index.specs.declared.rows.LeafRow.{LeafRow}
use Rattle.query_index.specs.declared.rows.IndexedLeaf.{IndexedLeaf}
use Rattle.query_index.specs.declared.rows.TheConstants.{NONE}
use Rattle.query_index.specs.TextPrefilters.{AsksToOpen}
use Rattle.query_index.specs.Rows.{Table, rows_of, IsListed, HasPut, HasAdded, HasAddedQuery, IsRangeOf, IsRowOf, IsRowOfLeaf, HasLeafRow, HaveRows, HaveReader, HaveLeaf, AreReaders, HaveRoom, HaveRooms, HasType, HaveTypes, IsIndexed, IsLeafIndex, IsExact, AreExact, IsWaiting, AreWaiting, WaitAlike, waits_for, is_awake, may_be_among, IsRowBelow, AreBelow, Marks}

-- a list with nothing in it, put in last, changes no list
pub same_more : (vs : List (Vec LeafRow Global)) (v : Vec LeafRow Global) → v.items ≡ [] → (t : ℕ) → slice_index_or (rows_of (vs ++ v ∷ [])) t [] ≡ slice_index_or (rows_of vs) t []
same_more [] v empty zero = empty
same_more [] v empty (suc t) = refl
same_more (w ∷ vs) v empty zero = refl
same_more (w ∷ vs) v empty (suc t) = same_more vs v empty t

-- the list at the place, and the others, where it is written
at_written : (vs : List (Vec LeafRow Global)) (ty : ℕ) (w : Vec LeafRow Global) → ty < length vs → slice_index_or (rows_of (slice_set vs ty w)) ty [] ≡ w.items
at_written [] ty w less = absurd (omega arith)
at_written (v ∷ vs) zero w less = refl
at_written (v ∷ vs) (suc ty) w less = at_written vs ty w (omega arith)

at_other : (vs : List (Vec LeafRow Global)) (ty t : ℕ) (w : Vec LeafRow Global) → (t ≡ ty → ⊥) → slice_index_or (rows_of (slice_set vs ty w)) t [] ≡ slice_index_or (rows_of vs) t []
at_other [] ty t w other = refl
at_other (v ∷ vs) zero zero w other = absurd (other refl)
at_other (v ∷ vs) zero (suc t) w other = refl
at_other (v ∷ vs) (suc ty) zero w other = refl
at_other (v ∷ vs) (suc ty) (suc t) w other = at_other vs ty t w (λ same. other (ap (λ n. suc n) same))

at_place : (vs : List (Vec LeafRow Global)) (ty : ℕ) (d : Vec LeafRow Global) → ty < length vs → slice_index_or (rows_of vs) ty [] ≡ (slice_index_or vs ty d).items
at_place [] ty d less = absurd (omega arith)
at_place (v ∷ vs) zero d less = refl
at_place (v ∷ vs) (suc ty) d less = at_place vs ty d (omega arith)

-- one row more in a list
pub put_is : (vs : List (Vec LeafRow Global)) (ty : ℕ) (row : LeafRow) (d w : Vec LeafRow Global) → ty < length vs → w.items ≡ (slice_index_or vs ty d).items ++ row ∷ [] → HasPut ty row (rows_of vs) (rows_of (slice_set vs ty w))
put_is vs ty row d w less is = record {
  more = subst (λ rs. Contains rs row) (sym new) (Contains-push (slice_index_or (rows_of vs) ty []) row);
  kept = λ t r h. elim (cases_eq t ty) [
    | inl same ↦ subst (λ i. IsListed (rows_of (slice_set vs ty w)) i r) (sym same) (subst (λ rs. Contains rs r) (sym new) (Contains-append_left (slice_index_or (rows_of vs) ty []) (row ∷ []) r (subst (λ i. IsListed (rows_of vs) i r) same h)))
    | inr other ↦ subst (λ rs. Contains rs r) (sym (at_other vs ty t w other)) h
  ];
  only = λ t r h. elim (cases_eq t ty) [
    | inl same ↦ elim (Contains-push_cases (slice_index_or (rows_of vs) ty []) row r (subst (λ rs. Contains rs r) new (subst (λ i. IsListed (rows_of (slice_set vs ty w)) i r) same h))) [
      | inl was ↦ inl (subst (λ i. IsListed (rows_of vs) i r) (sym same) was)
      | inr is_row ↦ inr (sym same, is_row)
    ]
    | inr other ↦ inl (subst (λ rs. Contains rs r) (at_other vs ty t w other) h)
  ];
}
  where
    new : slice_index_or (rows_of (slice_set vs ty w)) ty [] ≡ slice_index_or (rows_of vs) ty [] ++ row ∷ []
    new = at_written vs ty w less ∙ (is ∙ ap (λ rs. rs ++ row ∷ []) (sym (at_place vs ty d less)))

-- where lists with nothing in them came before
pub put_after : (ty : ℕ) (row : LeafRow) (old grown new : List (List LeafRow)) → ((t : ℕ) → slice_index_or grown t [] ≡ slice_index_or old t []) → HasPut ty row grown new → HasPut ty row old new
put_after ty row old grown new same h = record {
  more = h.more;
  kept = λ t r was. h.kept t r (subst (λ rs. Contains rs r) (sym (same t)) was);
  only = λ t r is. elim (h.only t r is) [
    | inl was ↦ inl (subst (λ rs. Contains rs r) (same t) was)
    | inr one ↦ inr one
  ];
}

-- a leaf that is put in last, and those before it
pub last_leaf : (had have : List IndexedLeaf) (l : IndexedLeaf) → have ≡ had ++ l ∷ [] → slice_get have (length had) ≡ Some l
last_leaf [] have l is = ap (λ ls. slice_get ls 0) is
last_leaf (x ∷ had) have l is = ap (λ ls. slice_get ls (suc (length had))) is ∙ last_leaf had (had ++ l ∷ []) l refl

before_last : (had : List IndexedLeaf) (l x : IndexedLeaf) (k : ℕ) → slice_get had k ≡ Some x → slice_get (had ++ l ∷ []) k ≡ Some x
before_last [] l x k at = absurd cc
before_last (y ∷ had) l x zero at = at
before_last (y ∷ had) l x (suc k) at = before_last had l x k at

-- what stands in a list, and in one after it
at_left : {A : Type 0} (xs ys : List A) (k : ℕ) (x : A) → slice_get xs k ≡ Some x → slice_get (xs ++ ys) k ≡ Some x
at_left [] ys k x at = absurd cc
at_left (y ∷ xs) ys zero x at = at
at_left (y ∷ xs) ys (suc k) x at = at_left xs ys k x at

at_right : {A : Type 0} (xs ys : List A) (k : ℕ) (x : A) → slice_get ys k ≡ Some x → slice_get (xs ++ ys) (length xs + k) ≡ Some x
at_right [] ys k x at = let here : k ≡ 0 + k = omega arith in subst (λ i. slice_get ys i ≡ Some x) here at
at_right (y ∷ xs) ys k x at = let here : suc (length xs + k) ≡ suc (length xs) + k = omega arith in subst (λ i. slice_get (y ∷ (xs ++ ys)) i ≡ Some x) here (at_right xs ys k x at)

pushed_at : {A : Type 0} (xs : List A) (l x : A) (k : ℕ) → slice_get (xs ++ l ∷ []) k ≡ Some x → (slice_get xs k ≡ Some x) ⊎ ((k ≡ length xs) × (l ≡ x))
pushed_at [] l x zero at = inr (refl, cc)
pushed_at [] l x (suc k) at = absurd cc
pushed_at (y ∷ xs) l x zero at = inl at
pushed_at (y ∷ xs) l x (suc k) at = elim (pushed_at xs l x k at) [ inl p ↦ inl p | inr q ↦ inr (ap suc q.0, q.1) ]

pub added_none : (waiting : ℕ → ℕ) → (query first : ℕ) (rows : List (List LeafRow)) (leaves : List IndexedLeaf) → HasAdded waiting query first [] rows leaves rows leaves
added_none waiting query first rows leaves = record { kept = λ t r h. h; leaves = λ k l at. at; count = omega arith; only = λ t r h. inl h }

abbrev row_kept : (query : ℕ) (had have : List IndexedLeaf) (row : LeafRow) → ((k : ℕ) (l : IndexedLeaf) → slice_get had k ≡ Some l → slice_get have k ≡ Some l) → IsRowOf query had row → IsRowOf query have row
row_kept query had have row kept h = record { leaf = h.leaf; at = kept row.leaf h.leaf h.at; range = h.range; text_prefilter = h.text_prefilter; numbered = h.numbered }

-- the leaves of a list, and of one after it
of_leaf_first : (waiting : ℕ → ℕ) → (query first : ℕ) (xs ys : List Leaf) (had have : List IndexedLeaf) (ty : ℕ) (row : LeafRow) → ((k : ℕ) (l : IndexedLeaf) → slice_get had k ≡ Some l → slice_get have k ≡ Some l) → IsRowOfLeaf waiting query first xs had ty row → IsRowOfLeaf waiting query first (xs ++ ys) have ty row
of_leaf_first waiting query first xs ys had have ty row kept h = record { of = row_kept query had have row kept h.of; leaf = h.leaf; place = h.place; listed = at_left xs ys h.place h.leaf h.listed; own = h.own; type = h.type; tests = h.tests; waits = h.waits }

of_leaf_later : (waiting : ℕ → ℕ) → (query first : ℕ) (xs ys : List Leaf) (have : List IndexedLeaf) (ty : ℕ) (row : LeafRow) → IsRowOfLeaf waiting query (first + length xs) ys have ty row → IsRowOfLeaf waiting query first (xs ++ ys) have ty row
of_leaf_later waiting query first xs ys have ty row h = record { of = h.of; leaf = h.leaf; place = length xs + h.place; listed = at_right xs ys h.place h.leaf h.listed; own = (let own = h.own in omega arith); type = h.type; tests = h.tests; waits = h.waits }

-- one leaf and its row
pub added_leaf : (waiting : ℕ → ℕ) → (query number : ℕ) (row : LeafRow) (leaf : IndexedLeaf) (l : Leaf) (old new : List (List LeafRow)) (had have : List IndexedLeaf) → have ≡ had ++ leaf ∷ [] → row.leaf ≡ length had → leaf.query ≡ query → leaf.number ≡ number → leaf.tests ≡ l.tests → IsRangeOf row.range leaf → AsksToOpen row.text_prefilter (each_holds leaf.tests) → row.waits ≡ waiting l.ty → HasPut l.ty row old new → HasAdded waiting query number (l ∷ []) old had new have
added_leaf waiting query number row leaf l old new had have is placed of own tests range text_prefilter waits p = record {
  kept = p.kept;
  leaves = λ k x at. subst (λ ls. slice_get ls k ≡ Some x) (sym is) (before_last had leaf x k at);
  count = ap length is ∙ length_push had leaf;
  only = λ t r now. elim (p.only t r now) [
    | inl was ↦ inl was
    | inr one ↦ inr (subst (IsRowOfLeaf waiting query number (l ∷ []) have t) one.1 (record { of = record { leaf = leaf; at = ap (slice_get have) placed ∙ last_leaf had have leaf is; range = range; text_prefilter = text_prefilter; numbered = of }; leaf = l; place = 0; listed = refl; own = omega arith; type = one.0; tests = tests; waits = waits ∙ ap waiting one.0 }))
  ];
}

pub leaf_row : (query number : ℕ) (row : LeafRow) (leaf : IndexedLeaf) (l : Leaf) (old new : List (List LeafRow)) (had have : List IndexedLeaf) → have ≡ had ++ leaf ∷ [] → row.leaf ≡ length had → leaf.query ≡ query → leaf.number ≡ number → leaf.tests ≡ l.tests → HasPut l.ty row old new → HasLeafRow query number new have l
leaf_row query number row leaf l old new had have is placed of own tests p = record {
  row = row;
  listed = p.more;
  leaf = leaf;
  at = ap (slice_get have) placed ∙ last_leaf had have leaf is;
  numbered = of;
  own = own;
  tests = tests;
}

pub added_more : (waiting : ℕ → ℕ) → (query first : ℕ) (xs ys : List Leaf) (old mid new : List (List LeafRow)) (a b c : List IndexedLeaf) → HasAdded waiting query first xs old a mid b → HasAdded waiting query (first + length xs) ys mid b new c → HasAdded waiting query first (xs ++ ys) old a new c
added_more waiting query first xs ys old mid new a b c h p = record {
  kept = λ t r was. p.kept t r (h.kept t r was);
  leaves = λ k l at. p.leaves k l (h.leaves k l at);
  count = (let one = h.count in let two = p.count in let both = length-append xs ys in omega arith);
  only = λ t r now. elim (p.only t r now) [
    | inl mid_is ↦ elim (h.only t r mid_is) [
      | inl was ↦ inl was
      | inr one ↦ inr (of_leaf_first waiting query first xs ys b c t r p.leaves one)
    ]
    | inr one ↦ inr (of_leaf_later waiting query first xs ys c t r one)
  ];
}

leaf_kept : (waiting : ℕ → ℕ) → (query number other first : ℕ) (list : List Leaf) (old new : List (List LeafRow)) (had have : List IndexedLeaf) (l : Leaf) → HasAdded waiting other first list old had new have → HasLeafRow query number old had l → HasLeafRow query number new have l
leaf_kept waiting query number other first list old new had have l added h = record { row = h.row; listed = added.kept l.ty h.row h.listed; leaf = h.leaf; at = added.leaves h.row.leaf h.leaf h.at; numbered = h.numbered; own = h.own; tests = h.tests }

-- the range of a leaf's tests, as the code reads them
pub range_of_leaf : (query number : ℕ) (range : Range) (checks : Option (Vec Check Global)) (tests : List Test) (xs ys : List Test) → xs ≡ tests → ys ≡ tests → AsksFor range (each_holds xs) → IfSome checks (λ cs. ComesTo range (each_holds ys) (all_checks_hold cs.items)) → IsRangeOf range (record { query = query; number = number; checks = checks; tests = tests })
range_of_leaf query number range checks tests xs ys x_is y_is asks come = record {
  asks = subst (λ ts. AsksFor range (each_holds ts)) x_is asks;
  checks = subst (λ ts. IfSome checks (λ cs. ComesTo range (each_holds ts) (all_checks_hold cs.items))) y_is come;
}

pub rows_none : (query : ℕ) (rows : List (List LeafRow)) (leaves : List IndexedLeaf) → HaveRows query [] rows leaves
rows_none query rows leaves k l at = absurd cc

pub rows_next : (waiting : ℕ → ℕ) → (query : ℕ) (list : List Leaf) (l : Leaf) (old new : List (List LeafRow)) (had have : List IndexedLeaf) → HaveRows query list old had → HasAdded waiting query (length list) (l ∷ []) old had new have → HasLeafRow query (length list) new have l → HaveRows query (list ++ l ∷ []) new have
rows_next waiting query list l old new had have h added one k x at = elim (pushed_at list l x k at) [
  | inl was ↦ leaf_kept waiting query k query (length list) (l ∷ []) old new had have x added (h k x was)
  | inr is ↦ subst (λ z. HasLeafRow query k new have z) is.1 (subst (λ i. HasLeafRow query i new have l) (sym is.0) one)
]

-- the leaf of an occurrence
leaf_there : (schema : Declared) (os : List Occurrence) (ls : List Leaf) (k : ℕ) (o : Occurrence) → AreLeavesOf schema os ls → slice_get os k ≡ Some o → (l : Leaf) × (slice_get ls k ≡ Some l) × IsLeafOf schema o l
leaf_there schema [] ls k o of at = absurd cc
leaf_there schema (x ∷ os) [] k o of at = absurd of
leaf_there schema (x ∷ os) (l ∷ ls) zero o of at = let same : x ≡ o = cc in (l, refl, subst (λ y. IsLeafOf schema y l) same of.0)
leaf_there schema (x ∷ os) (l ∷ ls) (suc k) o of at = leaf_there schema os ls k o of.1 at

-- where each leaf has its row, the query is watched
pub watched : (schema : Declared) (q : Query) (number : ℕ) (list : List Leaf) (rows : List (List LeafRow)) (leaves : List IndexedLeaf) → AreLeavesOf schema (occurrences (tree_of q)) list → HaveRows number list rows leaves → IsIndexed schema q number rows leaves
watched schema q number list rows leaves of have event k o at reads =
    let l = leaf_there schema (occurrences (tree_of q)) list k o of at in
    let h : HasLeafRow number k rows leaves l.0 = have k l.0 l.1 in
    let does : leaf_reads l.0 event ≡ true = l.2.reads event ∙ reads in
    let both = and_parts (eqb l.0.ty event.ty) (each_holds l.0.tests event) does in
    let type : l.0.ty ≡ event.ty = eqb-true l.0.ty event.ty both.0 in (
      record {
        row = h.row;
        listed = subst (λ t. IsListed rows t h.row) type h.listed;
        leaf = h.leaf;
        at = h.at;
        numbered = h.numbered;
        holds = ap (λ ts. each_holds ts event) h.tests ∙ both.1;
      },
      h.own,
    )

-- rows of another query leave a query watched
pub watched_kept : (waiting : ℕ → ℕ) → (schema : Declared) (q : Query) (number other first : ℕ) (list : List Leaf) (old new : List (List LeafRow)) (had have : List IndexedLeaf) → HasAdded waiting other first list old had new have → IsIndexed schema q number old had → IsIndexed schema q number new have
watched_kept waiting schema q number other first list old new had have added h event k o at reads =
    let found = h event k o at reads in
    let was = found.0 in
    (record { row = was.row; listed = added.kept event.ty was.row was.listed; leaf = was.leaf; at = added.leaves was.row.leaf was.leaf was.at; numbered = was.numbered; holds = was.holds }, found.1)

-- The queries before a number are watched.
pub record IsLeafIndexUpTo (k : ℕ) (schema : Declared) (queries : List Query) (rows : List (List LeafRow)) (leaves : List IndexedLeaf) : Type 0 where
  pub each : (j : ℕ) (q : Query) → j < k → slice_get queries j ≡ Some q → IsIndexed schema q j rows leaves
  pub exact : (j : ℕ) (q : Query) → j < k → slice_get queries j ≡ Some q → IsExact schema q j rows leaves
  pub below : AreBelow k rows leaves
  pub waiting : (j : ℕ) (q : Query) → j < k → slice_get queries j ≡ Some q → IsWaiting q j rows leaves
  pub alike : WaitAlike rows leaves

-- the occurrence of a leaf
occurrence_there : (schema : Declared) (os : List Occurrence) (ls : List Leaf) (k : ℕ) (l : Leaf) → AreLeavesOf schema os ls → slice_get ls k ≡ Some l → (o : Occurrence) × (slice_get os k ≡ Some o) × IsLeafOf schema o l
occurrence_there schema [] [] k l of at = absurd cc
occurrence_there schema [] (x ∷ ls) k l of at = absurd of
occurrence_there schema (o ∷ os) [] k l of at = absurd of
occurrence_there schema (o ∷ os) (x ∷ ls) zero l of at = let same : x ≡ l = cc in (o, refl, subst (IsLeafOf schema o) same of.0)
occurrence_there schema (o ∷ os) (x ∷ ls) (suc k) l of at = occurrence_there schema os ls k l of.1 at

-- a row of the query's leaves whose tests hold is of one that reads
exact_here : (waiting : ℕ → ℕ) → (schema : Declared) (q : Query) (number k : ℕ) (list : List Leaf) (have : List IndexedLeaf) (event : Event) (row : LeafRow) → AreLeavesOf schema (occurrences (tree_of q)) list → (n : IsRowOfLeaf waiting number 0 list have event.ty row) → n.of.leaf.number ≡ k → each_holds n.of.leaf.tests event ≡ true → (o : Occurrence) × (slice_get (occurrences (tree_of q)) k ≡ Some o) × (occurrence_reads schema o event ≡ true)
exact_here waiting schema q number k list have event row are n own holds =
    let first = n.own in
    let place : n.place ≡ k = omega arith in
    let at : slice_get list k ≡ Some n.leaf = subst (λ i. slice_get list i ≡ Some n.leaf) place n.listed in
    let o = occurrence_there schema (occurrences (tree_of q)) list k n.leaf are at in
    let tests : each_holds n.leaf.tests event ≡ true = ap (λ ts. each_holds ts event) (sym n.tests) ∙ holds in
    let does : leaf_reads n.leaf event ≡ true = ap (λ b. b && each_holds n.leaf.tests event) (eq-eqb n.leaf.ty event.ty n.type) ∙ tests in
    (o.0, o.1, sym (o.2.reads event) ∙ does)

nothing_listed : (t : ℕ) (r : LeafRow) → IsListed [] t r → ⊥
nothing_listed zero r h = (let l = h.1 in omega arith)
nothing_listed (suc t) r h = (let l = h.1 in omega arith)

pub leaf_index_none : (schema : Declared) (queries : List Query) (rows : List (List LeafRow)) (leaves : List IndexedLeaf) → rows ≡ [] → IsLeafIndexUpTo 0 schema queries rows leaves
leaf_index_none schema queries rows leaves none = record {
  each = λ j q less. absurd (omega arith);
  exact = λ j q less. absurd (omega arith);
  below = λ t r h. absurd (nothing_listed t r (subst (λ rs. IsListed rs t r) none h));
  waiting = λ j q less. absurd (omega arith);
  alike = λ t query r other h. absurd (nothing_listed t r (subst (λ rs. IsListed rs t r) none h));
}

-- a type that is put in
pub type_put : (types new : List Bool) (ty : ℕ) → ty < length types → ((j : ℕ) → has new j ≡ (eqb j ty || has types j)) → length new ≡ length types → HasType ty types new
type_put types new ty inside members room = record {
  here = or_right (not (nat_lt ty (length new))) (has new ty) (members ty ∙ or_left (eqb ty ty) (has types ty) (eq-eqb ty ty refl));
  kept = λ t was. elim (or_cases (not (nat_lt t (length types))) (has types t) was) [
    | inl past ↦ or_left (not (nat_lt t (length new))) (has new t) (ap (λ n. not (nat_lt t n)) room ∙ past)
    | inr there ↦ or_right (not (nat_lt t (length new))) (has new t) (members t ∙ or_right (eqb t ty) (has types t) there)
  ];
}

pub types_next : (list : List Leaf) (k : ℕ) (d : Leaf) (some types new : List Bool) → k < length list → (has some k ≡ true → may_be_among new (slice_index_or list k d).ty ≡ true) → ((t : ℕ) → may_be_among types t ≡ true → may_be_among new t ≡ true) → HaveTypes (take k list) some types → HaveTypes (take (k + 1) list) some new
types_next list k d some types new inside here kept h j l at is = elim (pushed_at (take k list) (slice_index_or list k d) l j (subst (λ ls. slice_get ls j ≡ Some l) (take_more list k d inside) at)) [
  | inl was ↦ kept l.ty (h j l was is)
  | inr one ↦ (
      let long : length (take k list) ≡ k = length-take-le k list (omega arith) in
      ap (λ (x : Leaf). may_be_among new x.ty) (sym one.1) ∙ here (ap (has some) (sym (one.0 ∙ long)) ∙ is)
      )
]

pub types_past : (list : List Leaf) (k : ℕ) (some types : List Bool) → k < length list → has some k ≡ false → HaveTypes (take k list) some types → HaveTypes (take (k + 1) list) some types
types_past list k some types inside none h j l at is = types_next list k l some types types inside never (λ t was. was) h j l at is
  where
    never : has some k ≡ true → may_be_among types (slice_index_or list k l).ty ≡ true
    never is = absurd (false≢true (sym none ∙ is))

-- a row is of one query alone
one_query : (leaves : List IndexedLeaf) (row : LeafRow) (one other : ℕ) → IsRowOf one leaves row → IsRowOf other leaves row → one ≡ other
one_query leaves row one other a b =
    let same : a.leaf ≡ b.leaf = (let both = sym a.at ∙ b.at in cc) in
    sym a.numbered ∙ (ap (λ (l : IndexedLeaf). l.query) same ∙ b.numbered)

-- a row that is not looked at, of a type and a query
not_awake : (types : List Bool) (query ty : ℕ) (row : LeafRow) (open_queries : List Bool) → row.waits ≡ waits_for types query ty → is_awake open_queries row ≡ false → (has open_queries query ≡ false) × (may_be_among types ty ≡ false)
not_awake types query ty row open_queries is out = by (may_be_among types ty) refl
  where
    parts : (a b : Bool) → (a || b) ≡ false → (a ≡ false) × (b ≡ false)
    parts true b e = absurd (false≢true (sym e))
    parts false b e = (refl, e)

    both : (eqb row.waits NONE ≡ false) × (has open_queries row.waits ≡ false)
    both = parts (eqb row.waits NONE) (has open_queries row.waits) out

    by : (b : Bool) → may_be_among types ty ≡ b → (has open_queries query ≡ false) × (may_be_among types ty ≡ false)
    by true e =
        let none : row.waits ≡ NONE = is ∙ ap (λ c. if c then NONE else query) e in
        absurd (false≢true (sym both.0 ∙ eq-eqb row.waits NONE none))
    by false e =
        let own : row.waits ≡ query = is ∙ ap (λ c. if c then NONE else query) e in
        (ap (has open_queries) (sym own) ∙ both.1, e)

module _ (schema : Declared) (q : Query) (query : ℕ) (old new : List (List LeafRow)) (had have : List IndexedLeaf) (below : AreBelow query old had) (a : HasAddedQuery schema q query old had new have) where
  -- a row of the query that was put in last
  row_here : (ty : ℕ) (row : LeafRow) (leaf : IndexedLeaf) → IsListed new ty row → slice_get have row.leaf ≡ Some leaf → leaf.query ≡ query → IsRowOfLeaf (waits_for a.types query) query 0 a.list have ty row
  row_here ty row leaf listed at own = elim (a.added.only ty row listed) [
    | inl was ↦ (
        let b = below ty row was in
        let low = b.below in
        let same : b.of.leaf ≡ leaf = (let both = sym (a.added.leaves row.leaf b.of.leaf b.of.at) ∙ at in cc) in
        let number : b.query ≡ query = sym b.of.numbered ∙ (ap (λ (l : IndexedLeaf). l.query) same ∙ own) in
        absurd (omega arith)
        )
    | inr here ↦ here
  ]

  pub waiting_here : IsWaiting q query new have
  waiting_here event h open_queries out =
      let here = row_here event.ty h.row h.leaf h.listed h.at h.numbered in
      let told = not_awake a.types query event.ty h.row open_queries here.waits out in (
        told.0,
        λ k found. (
            let n = row_here event.ty found.0.row found.0.leaf found.0.listed found.0.at found.0.numbered in
            let first = n.own in
            let same : n.of.leaf ≡ found.0.leaf = (let both = sym n.of.at ∙ found.0.at in cc) in
            let number : n.of.leaf.number ≡ k = ap (λ (l : IndexedLeaf). l.number) same ∙ found.1 in
            let place : n.place ≡ k = omega arith in
            by k n.leaf (subst (λ i. slice_get a.list i ≡ Some n.leaf) place n.listed) (ap (may_be_among a.types) n.type ∙ told.1) ((automaton_of (tree_of q)).first k) refl
            ),
      )
    where
      by : (k : ℕ) (l : Leaf) → slice_get a.list k ≡ Some l → may_be_among a.types l.ty ≡ false → (b : Bool) → (automaton_of (tree_of q)).first k ≡ b → (automaton_of (tree_of q)).first k ≡ false
      by k l at none true e = absurd (false≢true (sym none ∙ a.first k l at e))
      by k l at none false e = e

  pub alike_here : WaitAlike old had → WaitAlike new have
  alike_here was t number r s in_r in_s of_r of_s = elim (a.added.only t r in_r) [
    | inl old_r ↦ (
        let b = below t r old_r in
        let is : b.query ≡ number = one_query have r b.query number (row_kept b.query had have r a.added.leaves b.of) of_r in
        let low = b.below in
        elim (a.added.only t s in_s) [
          | inl old_s ↦ (
              let d = below t s old_s in
              let other : d.query ≡ b.query = one_query have s d.query number (row_kept d.query had have s a.added.leaves d.of) of_s ∙ sym is in
              was t b.query r s old_r old_s b.of (subst (λ n. IsRowOf n had s) other d.of)
              )
          | inr new_s ↦ (let same : query ≡ number = one_query have s query number new_s.of of_s in absurd (omega arith))
        ]
        )
    | inr new_r ↦ (
        let same : query ≡ number = one_query have r query number new_r.of of_r in
        elim (a.added.only t s in_s) [
          | inl old_s ↦ (
              let d = below t s old_s in
              let other : d.query ≡ number = one_query have s d.query number (row_kept d.query had have s a.added.leaves d.of) of_s in
              let low = d.below in
              absurd (omega arith)
              )
          | inr new_s ↦ new_r.waits ∙ sym new_s.waits
        ]
        )
  ]

-- rows of another query leave those of a query waiting
waiting_kept : (schema : Declared) (q p : Query) (query j : ℕ) (old new : List (List LeafRow)) (had have : List IndexedLeaf) → j < query → AreBelow query old had → HasAddedQuery schema q query old had new have → IsWaiting p j old had → IsWaiting p j new have
waiting_kept schema q p query j old new had have less below a was event h open_queries out =
    let told = was event (back h) open_queries out in
    (told.0, λ k found. told.1 k (back found.0, ap (λ (l : IndexedLeaf). l.number) (same_back found.0) ∙ found.1))
  where
    old_row : (x : HaveReader (slice_index_or new event.ty []) have j event) → IsListed old event.ty x.row
    old_row x = elim (a.added.only event.ty x.row x.listed) [
      | inl there ↦ there
      | inr n ↦ (
          let same : n.of.leaf ≡ x.leaf = (let both = sym n.of.at ∙ x.at in cc) in
          let number : query ≡ j = sym n.of.numbered ∙ (ap (λ (l : IndexedLeaf). l.query) same ∙ x.numbered) in
          absurd (omega arith)
          )
    ]

    same_back : (x : HaveReader (slice_index_or new event.ty []) have j event) → (below event.ty x.row (old_row x)).of.leaf ≡ x.leaf
    same_back x =
        let b = below event.ty x.row (old_row x) in
        let both = sym (a.added.leaves x.row.leaf b.of.leaf b.of.at) ∙ x.at in
        cc

    back : HaveReader (slice_index_or new event.ty []) have j event → HaveReader (slice_index_or old event.ty []) had j event
    back x =
        let b = below event.ty x.row (old_row x) in
        record { row = x.row; listed = old_row x; leaf = b.of.leaf; at = b.of.at; numbered = ap (λ (l : IndexedLeaf). l.query) (same_back x) ∙ x.numbered; holds = ap (λ (l : IndexedLeaf). each_holds l.tests event) (same_back x) ∙ x.holds }

pub leaf_index_next : (k : ℕ) (schema : Declared) (queries : List Query) (q : Query) (old new : List (List LeafRow)) (had have : List IndexedLeaf) → k < length queries → q ≡ slice_index_or queries k q → IsLeafIndexUpTo k schema queries old had → IsIndexed schema q k new have → HasAddedQuery schema q k old had new have → IsLeafIndexUpTo (k + 1) schema queries new have
leaf_index_next k schema queries q old new had have less here h watched added = record {
  each = λ j p below at. elim (cases_lt j k) [
    | inl low ↦ watched_kept (waits_for added.types k) schema p j k 0 added.list old new had have added.added (h.each j p low at)
    | inr high ↦ (
        let same : k ≡ j = omega arith in
        let there = slice_get-get_or queries k q less in
        let one : q ≡ p = (let both = sym (subst (λ i. slice_get queries i ≡ Some p) (sym same) at) ∙ there in cc) in
        subst (λ i. IsIndexed schema p i new have) same (subst (λ z. IsIndexed schema z k new have) one watched)
        )
  ];
  exact = λ j p below at event i found. (
      let r = found.0 in
      elim (added.added.only event.ty r.row r.listed) [
        | inl was ↦ (
            let b = h.below event.ty r.row was in
            let low = b.below in
            let one : b.of.leaf ≡ r.leaf = (let both = sym (added.added.leaves r.row.leaf b.of.leaf b.of.at) ∙ r.at in cc) in
            let number : b.query ≡ j = sym b.of.numbered ∙ (ap (λ (l : IndexedLeaf). l.query) one ∙ r.numbered) in
            h.exact j p (omega arith) at event i (record { row = r.row; listed = was; leaf = b.of.leaf; at = b.of.at; numbered = b.of.numbered ∙ number; holds = ap (λ (l : IndexedLeaf). each_holds l.tests event) one ∙ r.holds }, ap (λ (l : IndexedLeaf). l.number) one ∙ found.1)
            )
        | inr n ↦ (
            let one : n.of.leaf ≡ r.leaf = (let both = sym n.of.at ∙ r.at in cc) in
            let same : k ≡ j = sym n.of.numbered ∙ (ap (λ (l : IndexedLeaf). l.query) one ∙ r.numbered) in
            let there = slice_get-get_or queries k q less in
            let query : q ≡ p = (let both = sym (subst (λ i. slice_get queries i ≡ Some p) (sym same) at) ∙ there in cc) in
            exact_here (waits_for added.types k) schema p k i added.list have event r.row (subst (λ z. AreLeavesOf schema (occurrences (tree_of z)) added.list) query added.are) n (ap (λ (l : IndexedLeaf). l.number) one ∙ found.1) (ap (λ (l : IndexedLeaf). each_holds l.tests event) one ∙ r.holds)
            )
      ]);
  below = λ t r now. elim (added.added.only t r now) [
    | inl was ↦ (
        let b = h.below t r was in
        let low = b.below in
        record { query = b.query; of = row_kept b.query had have r added.added.leaves b.of; below = omega arith }
        )
    | inr is ↦ record { query = k; of = is.of; below = omega arith }
  ];
  waiting = λ j p below at. elim (cases_lt j k) [
    | inl low ↦ waiting_kept schema q p k j old new had have low h.below added (h.waiting j p low at)
    | inr high ↦ (
        let same : k ≡ j = omega arith in
        let there = slice_get-get_or queries k q less in
        let one : q ≡ p = (let both = sym (subst (λ i. slice_get queries i ≡ Some p) (sym same) at) ∙ there in cc) in
        subst (λ i. IsWaiting p i new have) same (subst (λ z. IsWaiting z k new have) one (waiting_here schema q k old new had have h.below added))
        )
  ];
  alike = alike_here schema q k old new had have h.below added h.alike;
}

pub exact_all : (k : ℕ) (schema : Declared) (queries : List Query) (rows : List (List LeafRow)) (leaves : List IndexedLeaf) → length queries ≤ k → IsLeafIndexUpTo k schema queries rows leaves → AreExact schema queries rows leaves
exact_all k schema queries rows leaves end h j q at = let less = slice_get_within queries j q at in h.exact j q (omega arith) at

pub waiting_all : (k : ℕ) (schema : Declared) (queries : List Query) (rows : List (List LeafRow)) (leaves : List IndexedLeaf) → length queries ≤ k → IsLeafIndexUpTo k schema queries rows leaves → AreWaiting queries rows leaves
waiting_all k schema queries rows leaves end h j q at = let less = slice_get_within queries j q at in h.waiting j q (omega arith) at

pub leaf_index_all : (k : ℕ) (schema : Declared) (queries : List Query) (rows : List (List LeafRow)) (leaves : List IndexedLeaf) → length queries ≤ k → IsLeafIndexUpTo k schema queries rows leaves → IsLeafIndex schema queries rows leaves
leaf_index_all k schema queries rows leaves end h j q at = let less = slice_get_within queries j q at in h.each j q (omega arith) at

pub below_all : (k : ℕ) (schema : Declared) (queries : List Query) (rows : List (List LeafRow)) (leaves : List IndexedLeaf) → k ≤ length queries → IsLeafIndexUpTo k schema queries rows leaves → AreBelow (length queries) rows leaves
below_all k schema queries rows leaves le h t r now =
    let b = h.below t r now in
    let low = b.below in
    record { query = b.query; of = b.of; below = omega arith }

only_one : (row r : LeafRow) → Contains (row ∷ []) r → row ≡ r
only_one row r h = elim (Contains-push_cases [] row r h) [
  | inl none ↦ absurd (let l = none.1 in omega arith)
  | inr is ↦ is
]

-- the leaf of the row that reads
same_leaf : (row : LeafRow) (leaves : List IndexedLeaf) (query : ℕ) (event : Event) (leaf : IndexedLeaf) → slice_get leaves row.leaf ≡ Some leaf → (h : HaveReader (row ∷ []) leaves query event) → leaf ≡ h.leaf
same_leaf row leaves query event leaf at h =
    let there : slice_get leaves row.leaf ≡ Some h.leaf = subst (λ (r : LeafRow). slice_get leaves r.leaf ≡ Some h.leaf) (sym (only_one row h.row h.listed)) h.at in
    let both = sym at ∙ there in
    cc

-- the leaf of a row as the code reads it
pub leaf_inside : (count : ℕ) (leaves : List IndexedLeaf) (row : LeafRow) → IsRowBelow count leaves row → row.leaf < length leaves
leaf_inside count leaves row h = slice_get_within leaves row.leaf h.of.leaf h.of.at

pub leaf_read : (count : ℕ) (leaves : List IndexedLeaf) (row : LeafRow) (d : IndexedLeaf) → IsRowBelow count leaves row → slice_get leaves row.leaf ≡ Some (slice_index_or leaves row.leaf d)
leaf_read count leaves row d h = slice_get-get_or leaves row.leaf d (leaf_inside count leaves row h)

pub range_read : (count : ℕ) (leaves : List IndexedLeaf) (row : LeafRow) (d : IndexedLeaf) → IsRowBelow count leaves row → IsRangeOf row.range (slice_index_or leaves row.leaf d)
range_read count leaves row d h = subst (IsRangeOf row.range) (sym (get_or_from_slice_get leaves row.leaf h.of.leaf d h.of.at)) h.of.range

pub number_read : (count : ℕ) (leaves : List IndexedLeaf) (row : LeafRow) (d : IndexedLeaf) → IsRowBelow count leaves row → (slice_index_or leaves row.leaf d).query < count
number_read count leaves row d h =
    let same : (slice_index_or leaves row.leaf d).query ≡ h.of.leaf.query = ap (λ (l : IndexedLeaf). l.query) (get_or_from_slice_get leaves row.leaf h.of.leaf d h.of.at) in
    let of = h.of.numbered in
    let low = h.below in
    omega arith

both_true : (a b : Bool) → a ≡ true → b ≡ true → (a && b) ≡ true
both_true a b p q = ap (λ x. x && b) p ∙ q

-- the set of the leaf's query has room for the leaf, where it reads
pub room_of_leaf : (row : LeafRow) (leaves : List IndexedLeaf) (event : Event) (sets : List (List Bool)) (leaf : IndexedLeaf) → slice_get leaves row.leaf ≡ Some leaf → each_holds leaf.tests event ≡ true → HaveRoom (row ∷ []) leaves event sets → leaf.number < length (slice_index_or sets leaf.query [])
room_of_leaf row leaves event sets leaf at holds h = h leaf.query leaf.number (record { row = row; listed = Contains-push [] row; leaf = leaf; at = at; numbered = refl; holds = holds }, refl)

-- a row whose leaf reads the event
pub marks_row : (row : LeafRow) (leaves : List IndexedLeaf) (event : Event) (before after : List Bool) (had have : List (List Bool)) (leaf : IndexedLeaf) → slice_get leaves row.leaf ≡ Some leaf → each_holds leaf.tests event ≡ true → ((j : ℕ) → has after j ≡ (eqb j leaf.query || has before j)) → length after ≡ length before → ((k : ℕ) → has (slice_index_or have leaf.query []) k ≡ (eqb k leaf.number || (has before leaf.query && has (slice_index_or had leaf.query []) k))) → ((j : ℕ) → j ≢ leaf.query → slice_index_or have j [] ≡ slice_index_or had j []) → map (λ (set : List Bool). length set) have ≡ map (λ (set : List Bool). length set) had → Marks (row ∷ []) leaves event before after had have
marks_row row leaves event before after had have leaf at holds members room set others rooms = record {
  marked = λ k h. members k ∙ or_left (eqb k leaf.query) (has before k) (eq-eqb k leaf.query (sym h.numbered ∙ ap (λ (l : IndexedLeaf). l.query) (sym (same_leaf row leaves k event leaf at h))));
  only = λ k is. elim (or_cases (eqb k leaf.query) (has before k) (sym (members k) ∙ is)) [
    | inl one ↦ inr (reader k (sym (eqb-true k leaf.query one)))
    | inr was ↦ inl was
  ];
  kept = λ k is. members k ∙ or_right (eqb k leaf.query) (has before k) is;
  room = room;
  read = λ query k h. (
      let one : leaf ≡ h.0.leaf = same_leaf row leaves query event leaf at h.0 in
      let here : leaf.query ≡ query = ap (λ (l : IndexedLeaf). l.query) one ∙ h.0.numbered in
      let own : k ≡ leaf.number = sym (ap (λ (l : IndexedLeaf). l.number) one ∙ h.1) in
      subst (λ i. has (slice_index_or have i []) k ≡ true) here (set k ∙ or_left (eqb k leaf.number) (has before leaf.query && has (slice_index_or had leaf.query []) k) (eq-eqb k leaf.number own))
      );
  read_before = λ query k marked was. elim (cases_eq query leaf.query) [
    | inl same ↦ subst (λ i. has (slice_index_or have i []) k ≡ true) (sym same) (set k ∙ or_right (eqb k leaf.number) (has before leaf.query && has (slice_index_or had leaf.query []) k) (both_true (has before leaf.query) (has (slice_index_or had leaf.query []) k) (ap (has before) (sym same) ∙ marked) (subst (λ i. has (slice_index_or had i []) k ≡ true) same was)))
    | inr other ↦ ap (λ xs. has xs k) (others query other) ∙ was
  ];
  read_only = λ query k is was. elim (cases_eq query leaf.query) [
    | inl same ↦ elim (or_cases (eqb k leaf.number) (has before leaf.query && has (slice_index_or had leaf.query []) k) (sym (set k) ∙ subst (λ i. has (slice_index_or have i []) k ≡ true) same was)) [
      | inl one ↦ inr (reader query (sym same), sym (eqb-true k leaf.number one))
      | inr both ↦ (
          let parts = and_parts (has before leaf.query) (has (slice_index_or had leaf.query []) k) both in
          inl (ap (has before) same ∙ parts.0, subst (λ i. has (slice_index_or had i []) k ≡ true) (sym same) parts.1)
          )
    ]
    | inr other ↦ elim (or_cases (eqb query leaf.query) (has before query) (sym (members query) ∙ is)) [
      | inl one ↦ absurd (other (eqb-true query leaf.query one))
      | inr marked ↦ inl (marked, ap (λ xs. has xs k) (sym (others query other)) ∙ was)
    ]
  ];
  rooms = rooms;
}
  where
    reader : (k : ℕ) → leaf.query ≡ k → HaveReader (row ∷ []) leaves k event
    reader k numbered = record { row = row; listed = Contains-push [] row; leaf = leaf; at = at; numbered = numbered; holds = holds }

-- one whose leaf does not
pub marks_not : (row : LeafRow) (leaves : List IndexedLeaf) (event : Event) (set : List Bool) (sets : List (List Bool)) (leaf : IndexedLeaf) → slice_get leaves row.leaf ≡ Some leaf → each_holds leaf.tests event ≡ false → Marks (row ∷ []) leaves event set set sets sets
marks_not row leaves event set sets leaf at fails = record {
  marked = λ k h. absurd (none k h);
  only = λ k is. inl is;
  kept = λ k is. is;
  room = refl;
  read = λ query k h. absurd (none query h.0);
  read_before = λ query k marked was. was;
  read_only = λ query k is was. inl (is, was);
  rooms = refl;
}
  where
    none : (k : ℕ) → HaveReader (row ∷ []) leaves k event → ⊥
    none k h = false≢true (sym fails ∙ (ap (λ (l : IndexedLeaf). each_holds l.tests event) (same_leaf row leaves k event leaf at h) ∙ h.holds))

-- and one whose range the event is not in, or whose text it does not have
pub marks_past : (count : ℕ) (row : LeafRow) (leaves : List IndexedLeaf) (event : Event) (set : List Bool) (sets : List (List Bool)) → IsRowBelow count leaves row → ((holds : Event → Bool) → AsksFor row.range holds → AsksToOpen row.text_prefilter holds → holds event ≡ false) → Marks (row ∷ []) leaves event set set sets sets
marks_past count row leaves event set sets h none = marks_not row leaves event set sets h.of.leaf h.of.at (none (each_holds h.of.leaf.tests) h.of.range.asks h.of.text_prefilter)

pub marks_none : (leaves : List IndexedLeaf) (event : Event) (set : List Bool) (sets : List (List Bool)) → Marks [] leaves event set set sets sets
marks_none leaves event set sets = record {
  marked = λ k h. absurd (let l = h.listed.1 in omega arith);
  only = λ k is. inl is;
  kept = λ k is. is;
  room = refl;
  read = λ query k h. absurd (let l = h.0.listed.1 in omega arith);
  read_before = λ query k marked was. was;
  read_only = λ query k is was. inl (is, was);
  rooms = refl;
}

abbrev reader_within : (rows more : List LeafRow) (leaves : List IndexedLeaf) (k : ℕ) (event : Event) → ((r : LeafRow) → Contains rows r → Contains more r) → HaveReader rows leaves k event → HaveReader more leaves k event
reader_within rows more leaves k event within h = record { row = h.row; listed = within h.row h.listed; leaf = h.leaf; at = h.at; numbered = h.numbered; holds = h.holds }

reader_cases : (xs ys : List LeafRow) (leaves : List IndexedLeaf) (k : ℕ) (event : Event) → HaveReader (xs ++ ys) leaves k event → HaveReader xs leaves k event ⊎ HaveReader ys leaves k event
reader_cases xs ys leaves k event h = elim (Contains-append_cases xs ys h.row h.listed) [
  | inl l ↦ inl (record { row = h.row; listed = l; leaf = h.leaf; at = h.at; numbered = h.numbered; holds = h.holds })
  | inr r ↦ inr (record { row = h.row; listed = r; leaf = h.leaf; at = h.at; numbered = h.numbered; holds = h.holds })
]

leaf_within : (rows more : List LeafRow) (leaves : List IndexedLeaf) (query k : ℕ) (event : Event) → ((r : LeafRow) → Contains rows r → Contains more r) → HaveLeaf rows leaves query k event → HaveLeaf more leaves query k event
leaf_within rows more leaves query k event within h = (reader_within rows more leaves query event within h.0, h.1)

leaf_cases : (xs ys : List LeafRow) (leaves : List IndexedLeaf) (query k : ℕ) (event : Event) → HaveLeaf (xs ++ ys) leaves query k event → HaveLeaf xs leaves query k event ⊎ HaveLeaf ys leaves query k event
leaf_cases xs ys leaves query k event h = elim (Contains-append_cases xs ys h.0.row h.0.listed) [
  | inl l ↦ inl (record { row = h.0.row; listed = l; leaf = h.0.leaf; at = h.0.at; numbered = h.0.numbered; holds = h.0.holds }, h.1)
  | inr r ↦ inr (record { row = h.0.row; listed = r; leaf = h.0.leaf; at = h.0.at; numbered = h.0.numbered; holds = h.0.holds }, h.1)
]

-- some rows, and those after them
pub marks_more : (xs ys : List LeafRow) (leaves : List IndexedLeaf) (event : Event) (before mid after : List Bool) (had half have : List (List Bool)) → Marks xs leaves event before mid had half → Marks ys leaves event mid after half have → Marks (xs ++ ys) leaves event before after had have
marks_more xs ys leaves event before mid after had half have a b = record {
  marked = λ k h. elim (reader_cases xs ys leaves k event h) [
    | inl l ↦ b.kept k (a.marked k l)
    | inr r ↦ b.marked k r
  ];
  only = λ k is. elim (b.only k is) [
    | inl was ↦ elim (a.only k was) [
      | inl first ↦ inl first
      | inr l ↦ inr (reader_within xs (xs ++ ys) leaves k event (λ r c. Contains-append_left xs ys r c) l)
    ]
    | inr r ↦ inr (reader_within ys (xs ++ ys) leaves k event (λ x c. Contains-append_right xs ys x c) r)
  ];
  kept = λ k is. b.kept k (a.kept k is);
  room = b.room ∙ a.room;
  read = λ query k h. elim (leaf_cases xs ys leaves query k event h) [
    | inl l ↦ b.read_before query k (a.marked query l.0) (a.read query k l)
    | inr r ↦ b.read query k r
  ];
  read_before = λ query k is was. b.read_before query k (a.kept query is) (a.read_before query k is was);
  read_only = λ query k is now. elim (b.read_only query k is now) [
    | inl was ↦ elim (a.read_only query k was.0 was.1) [
      | inl first ↦ inl first
      | inr l ↦ inr (leaf_within xs (xs ++ ys) leaves query k event (λ r c. Contains-append_left xs ys r c) l)
    ]
    | inr r ↦ inr (leaf_within ys (xs ++ ys) leaves query k event (λ x c. Contains-append_right xs ys x c) r)
  ];
  rooms = b.rooms ∙ a.rooms;
}

-- one row more
pub marks_next : (i : ℕ) (rows : List LeafRow) (e : LeafRow) (leaves : List IndexedLeaf) (event : Event) (before mid after : List Bool) (had half have : List (List Bool)) → i < length rows → Marks (take i rows) leaves event before mid had half → Marks (slice_index_or rows i e ∷ []) leaves event mid after half have → Marks (take (i + 1) rows) leaves event before after had have
marks_next i rows e leaves event before mid after had half have inside a b = subst (λ rs. Marks rs leaves event before after had have) (sym (take_more rows i e inside)) (marks_more (take i rows) (slice_index_or rows i e ∷ []) leaves event before mid after had half have a b)

pub marks_all : (i : ℕ) (rows : List LeafRow) (leaves : List IndexedLeaf) (event : Event) (before after : List Bool) (had have : List (List Bool)) → length rows ≤ i → Marks (take i rows) leaves event before after had have → Marks rows leaves event before after had have
marks_all i rows leaves event before after had have end h = subst (λ rs. Marks rs leaves event before after had have) (take_all i rows end) h

-- what is put into the set of a query that was not marked before
pub are_read : (rows : List (List LeafRow)) (leaves : List IndexedLeaf) (event : Event) (before after : List Bool) (had have : List (List Bool)) → Marks (slice_index_or rows event.ty []) leaves event before after had have → (query : ℕ) → has before query ≡ false → has after query ≡ true → AreReaders rows leaves query event (slice_index_or have query [])
are_read rows leaves event before after had have m query fresh marked = record {
  each = λ k h. m.read query k h;
  only = λ k is. elim (m.read_only query k marked is) [
    | inl was ↦ absurd (false≢true (sym fresh ∙ was.0))
    | inr h ↦ h
  ];
}

-- a set that is written is as large as it was
pub same_rooms : (sets : List (List Bool)) (k : ℕ) (d set : List Bool) → length set ≡ length (slice_index_or sets k d) → map (λ (s : List Bool). length s) (slice_set sets k set) ≡ map (λ (s : List Bool). length s) sets
same_rooms [] k d set same = refl
same_rooms (x ∷ sets) zero d set same = ap (λ n. n ∷ map (λ (s : List Bool). length s) sets) same
same_rooms (x ∷ sets) (suc k) d set same = ap (λ ns. length x ∷ ns) (same_rooms sets k d set same)

room_at : (xs ys : List (List Bool)) (k : ℕ) → map (λ (s : List Bool). length s) xs ≡ map (λ (s : List Bool). length s) ys → length (slice_index_or xs k []) ≡ length (slice_index_or ys k [])
room_at [] [] k same = refl
room_at [] (y ∷ ys) k same = absurd cc
room_at (x ∷ xs) [] k same = absurd cc
room_at (x ∷ xs) (y ∷ ys) zero same = let head : length x ≡ length y = cc in head
room_at (x ∷ xs) (y ∷ ys) (suc k) same = let rest : map (λ (s : List Bool). length s) xs ≡ map (λ (s : List Bool). length s) ys = cc in room_at xs ys k rest

-- a set that has room for the leaves of some rows has it for those of some of them, and as long as no room changes
pub room_within : (rows some : List LeafRow) (leaves : List IndexedLeaf) (event : Event) (had have : List (List Bool)) → ((r : LeafRow) → Contains some r → Contains rows r) → map (λ (s : List Bool). length s) have ≡ map (λ (s : List Bool). length s) had → HaveRoom rows leaves event had → HaveRoom some leaves event have
room_within rows some leaves event had have within same h query k l =
    let room = h query k (leaf_within some rows leaves query k event within l) in
    let as_large = room_at have had query same in
    omega arith

pub room_of_row : (rows : List LeafRow) (i : ℕ) (e : LeafRow) (leaves : List IndexedLeaf) (event : Event) (had have : List (List Bool)) → i < length rows → map (λ (s : List Bool). length s) have ≡ map (λ (s : List Bool). length s) had → HaveRoom rows leaves event had → HaveRoom (slice_index_or rows i e ∷ []) leaves event have
room_of_row rows i e leaves event had have inside same h = room_within rows (slice_index_or rows i e ∷ []) leaves event had have (λ r c. subst (Contains rows) (only_one (slice_index_or rows i e) r c) (Contains-get_or rows i e inside)) same h

-- the query of a row is within the room of the set as it is now
pub row_within : (rows : List LeafRow) (i : ℕ) (e : LeafRow) (leaves : List IndexedLeaf) (before now : List Bool) → All (IsRowBelow (length before) leaves) rows → i < length rows → length now ≡ length before → IsRowBelow (length now) leaves (slice_index_or rows i e)
row_within rows i e leaves before now low inside same = subst (λ n. IsRowBelow n leaves (slice_index_or rows i e)) (sym same) (low i e inside)

-- the rows of a type are of queries below their number, so within the room
pub rows_below : (rows : List (List LeafRow)) (ls leaves : List IndexedLeaf) (count ty room : ℕ) (table : Table) → record { rows = rows; leaves = ls; count = count } ≡ table → AreBelow count rows ls → leaves ≡ ls → table.count ≤ room → All (IsRowBelow room leaves) (slice_index_or rows ty [])
rows_below rows ls leaves count ty room table is below leaves_is le k d less =
    let b = below ty (slice_index_or (slice_index_or rows ty []) k d) (Contains-get_or (slice_index_or rows ty []) k d less) in
    let low = b.below in
    let same : count ≡ table.count = ap (λ (t : Table). t.count) is in
    record { query = b.query; of = subst (λ x. IsRowOf b.query x (slice_index_or (slice_index_or rows ty []) k d)) (sym leaves_is) b.of; below = omega arith }

-- what the rows of the event's type mark is what the table says
pub marks_found : (rows : List (List LeafRow)) (ls leaves : List IndexedLeaf) (count : ℕ) (table : Table) (event : Event) (before now : List Bool) (had have : List (List Bool)) → record { rows = rows; leaves = ls; count = count } ≡ table → leaves ≡ ls → Marks (slice_index_or rows event.ty []) leaves event before now had have → Marks (slice_index_or table.rows event.ty []) table.leaves event before now had have
marks_found rows ls leaves count table event before now had have is leaves_is marks =
    subst (λ (t : Table). Marks (slice_index_or t.rows event.ty []) t.leaves event before now had have) is
    (subst (λ x. Marks (slice_index_or rows event.ty []) x event before now had have) leaves_is marks)

-- where each row is of one of the first so many queries, it is enough that their sets have room
all_rooms : (count : ℕ) (rows : List (List LeafRow)) (leaves : List IndexedLeaf) (event : Event) (sets : List (List Bool)) → AreBelow count rows leaves → HaveRooms count rows leaves event sets → HaveRoom (slice_index_or rows event.ty []) leaves event sets
all_rooms count rows leaves event sets below h query number l =
    let b = below event.ty l.0.row l.0.listed in
    let one : b.of.leaf ≡ l.0.leaf = (let both = sym b.of.at ∙ l.0.at in cc) in
    let same : b.query ≡ query = sym b.of.numbered ∙ (ap (λ (w : IndexedLeaf). w.query) one ∙ l.0.numbered) in
    let low = b.below in
    let less : query < count = omega arith in
    h query number less l

-- the room that the table asks for is that which the rows of the event's type do
pub room_found : (rows : List (List LeafRow)) (ls leaves : List IndexedLeaf) (count : ℕ) (table : Table) (event : Event) (sets : List (List Bool)) → record { rows = rows; leaves = ls; count = count } ≡ table → AreBelow count rows ls → leaves ≡ ls → HaveRooms table.count table.rows table.leaves event sets → HaveRoom (slice_index_or rows event.ty []) leaves event sets
room_found rows ls leaves count table event sets is below leaves_is h =
    subst (λ x. HaveRoom (slice_index_or rows event.ty []) x event sets) (sym leaves_is)
    (all_rooms count rows ls event sets below (subst (λ (t : Table). HaveRooms t.count t.rows t.leaves event sets) (sym is) h))
