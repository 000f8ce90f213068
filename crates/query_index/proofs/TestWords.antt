-- Tests that rows have in common, and the words that tell which of them a row asks for and which fail.
use Rattle.std.proofs.Common.{◌≡◌, refl, sym, ap, ap₂, subst, ◌∙◌, ℕ, zero, suc, ◌+◌, ◌*◌, ◌%◌, ◌^◌, ◌<◌, ◌≤◌, ◌⊎◌, inl, inr, Bool, true, false, ◌&&◌, ◌||◌, eqb, List, [], ◌∷◌, ◌++◌, length, map, Some, None, Result, Ok, Err, IfOk, Vec, slice_get, slice_index_or, arith}
use Rattle.std.specs.declared.alloc.Global.{Global}
use Rattle.std.specs.List.{list_all, list_any}
use Rattle.std.specs.Int.{w64, trailing_zeros}
use Rattle.std.specs.Int.RustNames.{bit_or}
use lib.Bits.{bit_and}
use Rattle.std.proofs.lemmas.Bool.{cases_lt, cases_eq, eq-eqb, eqb-true, ne_eqb, false≢true, and_parts, or_cases, or_left, or_right}
use Rattle.std.proofs.lemmas.Nat.{and_le_r}
use Rattle.std.proofs.lemmas.Nat.Bits.{bit_at-trailing_zeros, bit_at_set_same, bit_at_set_other}
use Rattle.std.proofs.lemmas.List.{length_push}
use Rattle.std.proofs.lemmas.Option.{slice_get_within, get_or_from_slice_get}
use Rattle.cer_base.specs.declared.Memory.{Memory}
use Rattle.cer_base.specs.Bits.{bit}
use Rattle.cer_base.proofs.WordBits.{bit-zero, bit-and}
use Rattle.stream_schema.specs.declared.Event.{Event}
use Rattle.query_leaves.specs.declared.Test.{Test, No}
use Rattle.query_leaves.specs.declared.Test as test
use Rattle.query_leaves.specs.Shapes.{test_holds, each_holds}
use Rattle.predicate_bits.proofs.Listed.{holds_all, holds_any}
use Rattle.query_index.specs.declared.rows.LeafRow.{LeafRow}
use Rattle.query_index.specs.declared.rows.IndexedLeaf.{IndexedLeaf}
use Rattle.query_index.specs.declared.shared_tests.SharedTest.{SharedTest}
use Rattle.query_index.specs.declared.shared_tests.SharingRow.{SharingRow}
use Rattle.query_index.specs.declared.shared_tests.SharedTests.{SharedTests}
use Rattle.query_index.specs.SharedTests.{one_holds, HoldsAlike, HoldAlike, IsTestAt, HaveGrown, IsMask, IsSharing, AreSharing, HasFailing, IsMet, HasOneFailing}

-- elements of lists
pub any_default : {A : Type 0} (xs : List A) (k : ℕ) (d e : A) → k < length xs → slice_index_or xs k d ≡ slice_index_or xs k e
any_default [] k d e less = absurd (omega arith)
any_default (x ∷ xs) zero d e less = refl
any_default (x ∷ xs) (suc k) d e less = any_default xs k d e (omega arith)

pub there : {A : Type 0} (xs : List A) (k : ℕ) (d : A) → k < length xs → slice_get xs k ≡ Some (slice_index_or xs k d)
there [] k d less = absurd (omega arith)
there (x ∷ xs) zero d less = refl
there (x ∷ xs) (suc k) d less = there xs k d (omega arith)

pub some_there : {A : Type 0} (xs : List A) (k : ℕ) → k < length xs → (x : A) × (slice_get xs k ≡ Some x)
some_there [] k less = absurd (omega arith)
some_there (x ∷ xs) zero less = (x, refl)
some_there (x ∷ xs) (suc k) less = some_there xs k (omega arith)

at_last : {A : Type 0} (xs : List A) (x : A) → slice_get (xs ++ x ∷ []) (length xs) ≡ Some x
at_last [] x = refl
at_last (y ∷ xs) x = at_last xs x

before_last : {A : Type 0} (xs : List A) (x y : A) (k : ℕ) → slice_get xs k ≡ Some y → slice_get (xs ++ x ∷ []) k ≡ Some y
before_last [] x y k at = absurd cc
before_last (z ∷ xs) x y zero at = at
before_last (z ∷ xs) x y (suc k) at = before_last xs x y k at

last_or_before : {A : Type 0} (xs : List A) (x y : A) (k : ℕ) → slice_get (xs ++ x ∷ []) k ≡ Some y → (slice_get xs k ≡ Some y) ⊎ ((k ≡ length xs) × (x ≡ y))
last_or_before [] x y zero at = inr (refl, cc)
last_or_before [] x y (suc k) at = absurd cc
last_or_before (z ∷ xs) x y zero at = inl at
last_or_before (z ∷ xs) x y (suc k) at = elim (last_or_before xs x y k at) [ inl was ↦ inl was | inr is ↦ inr (ap suc is.0, is.1) ]

-- tests that hold of the same events
all_mapped : (f : Test → Bool) (xs : List Test) → list_all f xs ≡ list_all (λ b. b) (map f xs)
all_mapped f [] = refl
all_mapped f (x ∷ xs) = ap (λ b. f x && b) (all_mapped f xs)

any_mapped : (f : Test → Bool) (xs : List Test) → list_any f xs ≡ list_any (λ b. b) (map f xs)
any_mapped f [] = refl
any_mapped f (x ∷ xs) = ap (λ b. f x || b) (any_mapped f xs)

pub alike_all : (tests others : Vec Test Global) (xs ys : List Test) → xs ≡ tests.items → ys ≡ others.items → HoldAlike xs ys → HoldsAlike (test.All tests) (test.All others)
alike_all tests others xs ys x y alike event =
    let f : Test → Bool = λ t. test_holds t event in
    holds_all event tests ∙ (ap (list_all f) (sym x) ∙ (all_mapped f xs ∙ (ap (list_all (λ b. b)) (alike event) ∙ (sym (all_mapped f ys) ∙ (ap (list_all f) y ∙ sym (holds_all event others))))))

pub alike_any : (tests others : Vec Test Global) (xs ys : List Test) → xs ≡ tests.items → ys ≡ others.items → HoldAlike xs ys → HoldsAlike (test.Any tests) (test.Any others)
alike_any tests others xs ys x y alike event =
    let f : Test → Bool = λ t. test_holds t event in
    holds_any event tests ∙ (ap (list_any f) (sym x) ∙ (any_mapped f xs ∙ (ap (list_any (λ b. b)) (alike event) ∙ (sym (any_mapped f ys) ∙ (ap (list_any f) y ∙ sym (holds_any event others))))))

-- the first so many of two lists
abbrev pub AlikeTo : ℕ → List Test → List Test → Type 0
AlikeTo n xs ys = (j : ℕ) → j < n → HoldsAlike (slice_index_or xs j No) (slice_index_or ys j No)

pub alike_next : (n : ℕ) (xs ys : List Test) (x y : Test) → x ≡ slice_index_or xs n x → y ≡ slice_index_or ys n y → n < length xs → n < length ys → HoldsAlike x y → AlikeTo n xs ys → AlikeTo (n + 1) xs ys
alike_next n xs ys x y x_is y_is less within same was j below event = elim (cases_lt j n) [
  | inl early ↦ was j early event
  | inr late ↦ (
      let is : n ≡ j = omega arith in
      subst (λ i. test_holds (slice_index_or xs i No) event ≡ test_holds (slice_index_or ys i No) event) is
      (ap (λ t. test_holds t event) (sym (x_is ∙ any_default xs n x No less)) ∙ (same event ∙ ap (λ t. test_holds t event) (y_is ∙ any_default ys n y No within)))
      )
]

pub alike_each : (n : ℕ) (xs ys : List Test) → length xs ≡ length ys → length xs ≤ n → AlikeTo n xs ys → HoldAlike xs ys
alike_each n [] [] long end each event = refl
alike_each n [] (y ∷ ys) long end each event = absurd (omega arith)
alike_each n (x ∷ xs) [] long end each event = absurd (omega arith)
alike_each zero (x ∷ xs) (y ∷ ys) long end each event = absurd (omega arith)
alike_each (suc n) (x ∷ xs) (y ∷ ys) long end each event = ap₂ (λ (b : Bool) bs. b ∷ bs) (each 0 (omega arith) event) (alike_each n xs ys (omega arith) (omega arith) (λ j less. each (suc j) (omega arith)) event)

-- the test that is shared is one of the list
pub one_is : (t : SharedTest) (x : Test) (event : Event) → Some x ≡ slice_get t.tests t.place → one_holds t event ≡ test_holds x event
one_is t x event at = ap (λ y. test_holds y event) (get_or_from_slice_get t.tests t.place x No (sym at))

pub none_is : (t : SharedTest) (event : Event) → None ≡ slice_get t.tests t.place → false ≡ one_holds t event
none_is t event at = ap (λ y. test_holds y event) (sym (past t.tests t.place at))
  where
    past : (xs : List Test) (k : ℕ) → None ≡ slice_get xs k → slice_index_or xs k No ≡ No
    past [] k at = refl
    past (x ∷ xs) zero at = absurd cc
    past (x ∷ xs) (suc k) at = past xs k at

-- a word with one bit more
pub bit_more : (w k : ℕ) → k < 64 → (j : ℕ) → bit (bit_or w (1 * 2 ^ k % 2 ^ 64)) j ≡ eqb j k || bit w j
bit_more w k low j = elim (cases_eq j k) [
  | inl e ↦ rw (e, bit_at_set_same w64 w k low, eq-eqb k k refl) refl
  | inr n ↦ rw (ne_eqb j k n, bit_at_set_other w64 w k low j n) refl
]

-- two words with no bit in common, and with one
pub none_met : (mask failing : ℕ) → eqb (bit_and mask failing) 0 ≡ true → IsMet mask failing
none_met mask failing none k is = by (bit failing k) refl
  where
    by : (b : Bool) → bit failing k ≡ b → bit failing k ≡ false
    by false e = e
    by true e = absurd (false≢true (sym (ap (λ w. bit w k) (eqb-true (bit_and mask failing) 0 none) ∙ bit-zero k) ∙ (bit-and mask failing k ∙ (ap (λ b. b && bit failing k) is ∙ e))))

pub one_met : (mask failing : ℕ) → failing < 2 ^ 64 → eqb (bit_and mask failing) 0 ≡ false → HasOneFailing mask failing
one_met mask failing fits some =
    let both = bit_and mask failing in
    let low = bit_at-trailing_zeros w64 both (above (bit_and mask failing) some) (omega (arith, and_le_r mask failing)) in
    let i = trailing_zeros w64 both in
    let is : (bit mask i && bit failing i) ≡ true = sym (bit-and mask failing i) ∙ ap (λ b. eqb b 1) low.1 in
    let parts = and_parts (bit mask i) (bit failing i) is in
    (i, parts.0, parts.1)
  where
    above : (n : ℕ) → eqb n 0 ≡ false → 0 < n
    above zero e = absurd (false≢true (sym e ∙ eq-eqb 0 0 refl))
    above (suc n) e = omega arith

-- tests that grow
pub grown_not : (tests : List SharedTest) → HaveGrown tests tests
grown_not tests = record { kept = λ k t at. at }

pub grown_more : (a b c : List SharedTest) → HaveGrown a b → HaveGrown b c → HaveGrown a c
grown_more a b c first second = record { kept = λ k t at. second.kept k t (first.kept k t at) }

pub grown_by : (old new : List SharedTest) (t : SharedTest) → new ≡ old ++ t ∷ [] → HaveGrown old new
grown_by old new t put = record { kept = λ k x at. subst (λ ts. slice_get ts k ≡ Some x) (sym put) (before_last old t x k at) }

pub test_put : (old new : List SharedTest) (t : SharedTest) (x : Test) → new ≡ old ++ t ∷ [] → length old < 64 → ((event : Event) → one_holds t event ≡ test_holds x event) → IsTestAt new (length old) x
test_put old new t x put low same = record {
  low = low;
  shared = t;
  at = subst (λ ts. slice_get ts (length old) ≡ Some t) (sym put) (at_last old t);
  same = same;
}

-- masks
pub mask_none : (tests : List SharedTest) → IsMask tests 0 []
mask_none tests = record {
  there = λ k is. absurd (false≢true (sym (bit-zero k) ∙ is));
  each = λ event all. refl;
  only = λ event holds k t is. absurd (false≢true (sym (bit-zero k) ∙ is));
}

pub mask_grown : (old new : List SharedTest) (mask : ℕ) (list : List Test) → HaveGrown old new → IsMask old mask list → IsMask new mask list
mask_grown old new mask list g m = record {
  there = λ k is. (
      let p = m.there k is in
      let x = some_there old k p.1 in
      (p.0, slice_get_within new k x.0 (g.kept k x.0 x.1))
      );
  each = λ event all. m.each event (λ k t is at. all k t is (g.kept k t at));
  only = λ event holds k t is at. (
      let x = some_there old k (m.there k is).1 in
      let same : x.0 ≡ t = (let now = g.kept k x.0 x.1 in cc) in
      subst (λ y. one_holds y event ≡ true) same (m.only event holds k x.0 is x.1)
      );
}

each_pushed : (event : Event) (list : List Test) (x : Test) → each_holds (list ++ x ∷ []) event ≡ (each_holds list event && test_holds x event)
each_pushed event [] x = and_true (test_holds x event)
  where
    and_true : (b : Bool) → (b && true) ≡ (true && b)
    and_true true = refl
    and_true false = refl
each_pushed event (t ∷ list) x = ap (λ b. test_holds t event && b) (each_pushed event list x) ∙ bracket (test_holds t event) (each_holds list event) (test_holds x event)
  where
    bracket : (a b c : Bool) → (a && (b && c)) ≡ ((a && b) && c)
    bracket true b c = refl
    bracket false b c = refl

both_true : (a b : Bool) → a ≡ true → b ≡ true → (a && b) ≡ true
both_true true b p q = q
both_true false b p q = p

pub mask_next : (tests : List SharedTest) (mask new k : ℕ) (list : List Test) (x : Test) → ((j : ℕ) → bit new j ≡ eqb j k || bit mask j) → IsTestAt tests k x → IsMask tests mask list → IsMask tests new (list ++ x ∷ [])
mask_next tests mask new k list x bits one m = record {
  there = λ j is. elim (or_cases (eqb j k) (bit mask j) (sym (bits j) ∙ is)) [
    | inl e ↦ subst (λ i. (i < 64) × (i < length tests)) (sym (eqb-true j k e)) (one.low, slice_get_within tests k one.shared one.at)
    | inr was ↦ m.there j was
  ];
  each = λ event all. each_pushed event list x ∙ both_true (each_holds list event) (test_holds x event) (m.each event (λ j t is at. all j t (bits j ∙ or_right (eqb j k) (bit mask j) is) at)) (sym (one.same event) ∙ all k one.shared (bits k ∙ or_left (eqb k k) (bit mask k) (eq-eqb k k refl)) one.at);
  only = λ event holds j t is at. (
      let parts = and_parts (each_holds list event) (test_holds x event) (sym (each_pushed event list x) ∙ holds) in
      elim (or_cases (eqb j k) (bit mask j) (sym (bits j) ∙ is)) [
        | inl e ↦ (
            let here : slice_get tests k ≡ Some t = subst (λ i. slice_get tests i ≡ Some t) (eqb-true j k e) at in
            let same : one.shared ≡ t = (let known = one.at in cc) in
            subst (λ y. one_holds y event ≡ true) same (one.same event ∙ parts.1)
            )
        | inr was ↦ m.only event parts.0 j t was at
      ]
      );
}

-- rows in a run
pub sharing_none : (leaves : List IndexedLeaf) (shared : SharedTests) → shared.rows.items ≡ [] → AreSharing leaves [] shared
sharing_none leaves shared none = record {
  count = ap (λ (xs : List SharingRow). length xs) none;
  each = λ k r s at. absurd cc;
}

pub sharing_grown : (leaves : List IndexedLeaf) (tests new : List SharedTest) (r : LeafRow) (s : SharingRow) → HaveGrown tests new → IsSharing leaves tests r s → IsSharing leaves new r s
sharing_grown leaves tests new r s g h = record { leaf = h.leaf; at = h.at; mask = mask_grown tests new s.mask h.leaf.tests g h.mask; waits = h.waits; query = h.query; number = h.number }

pub sharing_past : (leaves : List IndexedLeaf) (rows : List LeafRow) (old new : SharedTests) → new.rows.items ≡ old.rows.items → HaveGrown old.tests.items new.tests.items → AreSharing leaves rows old → AreSharing leaves rows new
sharing_past leaves rows old new same g h = record {
  count = ap (λ (xs : List SharingRow). length xs) same ∙ h.count;
  each = λ k r s at there. sharing_grown leaves old.tests.items new.tests.items r s g (h.each k r s at (subst (λ xs. slice_get xs k ≡ Some s) same there));
}

pub sharing_put : (leaves : List IndexedLeaf) (rows : List LeafRow) (row : LeafRow) (old new : SharedTests) (s : SharingRow) → new.rows.items ≡ old.rows.items ++ s ∷ [] → HaveGrown old.tests.items new.tests.items → IsSharing leaves new.tests.items row s → AreSharing leaves rows old → AreSharing leaves (rows ++ row ∷ []) new
sharing_put leaves rows row old new s put g one h = record {
  count = ap (λ (xs : List SharingRow). length xs) put ∙ (let a = length_push old.rows.items s in let b = length_push rows row in let c = h.count in omega arith);
  each = λ k r x at there. elim (last_or_before rows row r k at) [
    | inl was ↦ elim (last_or_before old.rows.items s x k (subst (λ xs. slice_get xs k ≡ Some x) put there)) [
      | inl before ↦ sharing_grown leaves old.tests.items new.tests.items r x g (h.each k r x was before)
      | inr last ↦ absurd (let l = slice_get_within rows k r was in let c = h.count in let e = last.0 in omega arith)
    ]
    | inr last ↦ elim (last_or_before old.rows.items s x k (subst (λ xs. slice_get xs k ≡ Some x) put there)) [
      | inl before ↦ absurd (let l = slice_get_within old.rows.items k x before in let c = h.count in let e = last.0 in omega arith)
      | inr is ↦ subst (λ (y : LeafRow). IsSharing leaves new.tests.items y x) last.1 (subst (IsSharing leaves new.tests.items row) is.1 one)
    ]
  ];
}

pub past_told : (result : Result Bool Memory) (leaves : List IndexedLeaf) (old new : SharedTests) → IfOk result (λ is. is ≡ false → (ls : List IndexedLeaf) (rows : List LeafRow) → AreSharing ls rows old → AreSharing ls rows new) → IfOk result (λ is. is ≡ false → (rows : List LeafRow) → AreSharing leaves rows old → AreSharing leaves rows new)
past_told (Ok is) leaves old new told = λ no_more rows are. told no_more leaves rows are
past_told (Err stop) leaves old new told = told

-- the word of what fails, of the first so many tests
pub record HasFailingTo (n : ℕ) (tests : List SharedTest) (failing : ℕ) (event : Event) : Type 0 where
  pub fails : (k : ℕ) → bit failing k ≡ true → (t : SharedTest) × (slice_get tests k ≡ Some t) × (one_holds t event ≡ false)
  pub holds : (k : ℕ) (t : SharedTest) → k < n → slice_get tests k ≡ Some t → bit failing k ≡ false → one_holds t event ≡ true

pub failing_none : (tests : List SharedTest) (event : Event) → HasFailingTo 0 tests 0 event
failing_none tests event = record {
  fails = λ k is. absurd (false≢true (sym (bit-zero k) ∙ is));
  holds = λ k t less. absurd (omega arith);
}

last_is : {A : Type 0} (xs : List A) (n k : ℕ) (d t : A) → slice_get xs k ≡ Some t → k < n + 1 → n ≤ k → n < length xs → slice_index_or xs n d ≡ t
last_is xs n k d t at less more inside =
    let is : k ≡ n = omega arith in
    get_or_from_slice_get xs n t d (subst (λ i. slice_get xs i ≡ Some t) is at)

pub failing_past : (n : ℕ) (tests : List SharedTest) (failing : ℕ) (event : Event) (d : SharedTest) → n < length tests → one_holds (slice_index_or tests n d) event ≡ true → HasFailingTo n tests failing event → HasFailingTo (n + 1) tests failing event
failing_past n tests failing event d inside one was = record {
  fails = was.fails;
  holds = λ k t less at none. elim (cases_lt k n) [
    | inl early ↦ was.holds k t early at none
    | inr late ↦ subst (λ y. one_holds y event ≡ true) (last_is tests n k d t at less late inside) one
  ];
}

pub failing_next : (n : ℕ) (tests : List SharedTest) (failing new : ℕ) (event : Event) (d : SharedTest) → n < length tests → one_holds (slice_index_or tests n d) event ≡ false → ((j : ℕ) → bit new j ≡ eqb j n || bit failing j) → HasFailingTo n tests failing event → HasFailingTo (n + 1) tests new event
failing_next n tests failing new event d inside one bits was = record {
  fails = λ k is. elim (or_cases (eqb k n) (bit failing k) (sym (bits k) ∙ is)) [
    | inl e ↦ (slice_index_or tests n d, subst (λ i. slice_get tests i ≡ Some (slice_index_or tests n d)) (sym (eqb-true k n e)) (there tests n d inside), one)
    | inr before ↦ was.fails k before
  ];
  holds = λ k t less at none. (
      let both = or_parts (eqb k n) (bit failing k) (sym (bits k) ∙ none) in
      elim (cases_lt k n) [
        | inl early ↦ was.holds k t early at both.1
        | inr late ↦ absurd (false≢true (sym both.0 ∙ eq-eqb k n (omega arith)))
      ]
      );
}
  where
    or_parts : (a b : Bool) → (a || b) ≡ false → (a ≡ false) × (b ≡ false)
    or_parts true b e = absurd (false≢true (sym e))
    or_parts false b e = (refl, e)

pub failing_all : (n : ℕ) (tests : List SharedTest) (failing : ℕ) (event : Event) → ((k : ℕ) → k < 64 → k < length tests → k < n) → HasFailingTo n tests failing event → HasFailing tests failing event
failing_all n tests failing event end was = record {
  fails = was.fails;
  holds = λ k t low at none. was.holds k t (end k low (slice_get_within tests k t at)) at none;
}

-- what the words tell of a leaf's tests
pub met_holds : (tests : List SharedTest) (mask failing : ℕ) (list : List Test) (event : Event) → HasFailing tests failing event → IsMask tests mask list → IsMet mask failing → each_holds list event ≡ true
met_holds tests mask failing list event f m met = m.each event (λ k t is at. f.holds k t (m.there k is).0 at (met k is))

pub failing_fails : (tests : List SharedTest) (mask failing : ℕ) (list : List Test) (event : Event) → HasFailing tests failing event → IsMask tests mask list → HasOneFailing mask failing → each_holds list event ≡ false
failing_fails tests mask failing list event f m one = by (each_holds list event) refl
  where
    by : (b : Bool) → each_holds list event ≡ b → each_holds list event ≡ false
    by false e = e
    by true e =
        let t = f.fails one.0 one.2 in
        absurd (false≢true (sym t.2 ∙ m.only event e one.0 t.0 one.1 t.1))
