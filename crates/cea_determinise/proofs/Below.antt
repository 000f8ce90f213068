-- Sets of leaves below a size, as they are built leaf by leaf and row by row.
use Rattle.std.proofs.Common.{◌≡◌, ◌≢◌, length, ℕ, zero, suc, ◌+◌, ◌<◌, ◌≤◌, Bool, true, false, ◌&&◌, ◌||◌, List, [], refl, sym, ap, ◌∙◌, inl, inr, arith, nat_lt}
use Rattle.std.specs.Prelude.{not, eqb, slice_index_or}
use Rattle.std.proofs.lemmas.Bool.{cases_eq, cases_lt, eq-eqb, ne_eqb, and_parts, or_cases, false≢true, false_from_ne_true}
use Rattle.cer_base.specs.Bits.{has, room_for}
use Rattle.cea_determinise.specs.Runs.{LeafSet, Automaton, RunState, start, some_below, skip_insensitive, pair, candidates}
use Rattle.cea_determinise.specs.Cea.{IsSet, AreRows, IsWellFormed, row, automaton_of_cea}
use Rattle.cea_determinise.specs.declared.cea.Cea.{Cea}
use Rattle.cea_determinise.proofs.SomeLeaf.{none_below, found_below, some_either}

-- the test whether a set is empty tells whether some leaf is in it
pub empty_tells : (size : ℕ) (set : List Bool) (r : Bool) → IsSet size set → (r ≡ true → (k : ℕ) → has set k ≡ false) → (r ≡ false → (k : ℕ) × (has set k ≡ true)) → not r ≡ some_below size (has set)
empty_tells size set true is none some = sym (none_below size (has set) (none refl))
empty_tells size set false is none some =
    let found = some refl in sym (found_below size found.0 (has set) (is.below found.0 found.1) found.1)

bools : (e f n w a : Bool) → ((e || f && n) || f && a) || w && a ≡ e || (f && (n || a) || w && a)
bools true f n w a = refl
bools false true true w a = refl
bools false true false w a = refl
bools false false n w a = refl

-- three unions of rows are the candidates
pub three_unions : (size : ℕ) (fresh waiting near far : LeafSet) (blank one two three : Bool) → blank ≡ false → one ≡ blank || some_below size (λ j. fresh j && near j) → two ≡ one || some_below size (λ j. fresh j && far j) → three ≡ two || some_below size (λ j. waiting j && far j) → three ≡ some_below size (λ j. fresh j && (near j || far j) || waiting j && far j)
three_unions size fresh waiting near far blank one two three e f g h =
    h ∙ rw (g, f, e, ← some_either size (λ j. fresh j && near j) (λ j. fresh j && far j), ← some_either size (λ j. fresh j && near j || fresh j && far j) (λ j. waiting j && far j))
    (ap (some_below size) (λ i j. bools false (fresh j) (near j) (waiting j) (far j) i))

lt_true : (k n : ℕ) → k < n → nat_lt k n ≡ true
lt_true k n h = grind arith

lt_false : (k n : ℕ) → n ≤ k → nat_lt k n ≡ false
lt_false k n h = grind arith

lt_more : (n : ℕ) → nat_lt n (n + 1) ≡ true
lt_more n = lt_true n (n + 1) (omega arith)

lt_same : (k n : ℕ) → k ≢ n → nat_lt k n ≡ nat_lt k (n + 1)
lt_same k n other = elim (cases_lt k n) [
  | inl h ↦ lt_true k n h ∙ sym (lt_true k (n + 1) (omega (arith, h)))
  | inr h ↦ lt_false k n h ∙ sym (lt_false k (n + 1) (omega (arith, h, other)))
]

both_false : (a b : Bool) → a && false ≡ b && false
both_false true true = refl
both_false true false = refl
both_false false true = refl
both_false false false = refl

-- the rows that a pass goes over, by the names of the automaton
pub rows_are : (size k : ℕ) (from : LeafSet) (rows items : List (List Bool)) (x b : Bool) → rows ≡ items → length items ≡ size → x ≡ b || some_below (length rows) (λ j. from j && row rows j k) → x ≡ b || some_below size (λ j. from j && row items j k)
rows_are size k from rows items x b e n is = is ∙ rw (e, n) refl

pub same_room : (size n : ℕ) (rows items : List (List Bool)) → rows ≡ items → AreRows size items → n ≡ room_for size → (j : ℕ) (d : List Bool) → j < length rows → length (slice_index_or rows j d) ≡ n
same_room size n rows items e are room j d h = rw (e, room) ((are.sets j d (rw (← e) h)).room)

-- one leaf more, put in or passed over
pub put_more : (f old new : LeafSet) (n : ℕ) → ((k : ℕ) → old k ≡ nat_lt k n && f k) → f n ≡ true → ((k : ℕ) → new k ≡ eqb k n || old k) → (k : ℕ) → new k ≡ nat_lt k (n + 1) && f k
put_more f old new n so_far in' put k =
    elim (cases_eq k n) [
      | inl same ↦ rw (put k, same, eq-eqb n n refl, in', lt_more n) refl
      | inr other ↦ put k ∙ rw (ne_eqb k n other) (so_far k) ∙ ap (λ b. b && f k) (lt_same k n other)
    ]

pub pass_more : (f old : LeafSet) (n : ℕ) → ((k : ℕ) → old k ≡ nat_lt k n && f k) → f n ≡ false → (k : ℕ) → old k ≡ nat_lt k (n + 1) && f k
pass_more f old n so_far out k =
    elim (cases_eq k n) [
      | inl same ↦ so_far k ∙ rw (same, out) (both_false (nat_lt n n) (nat_lt n (n + 1)))
      | inr other ↦ so_far k ∙ ap (λ b. b && f k) (lt_same k n other)
    ]

-- no leaf from the size on waits
pub skip_insensitive_below : (a : Automaton) (fresh waiting : LeafSet) (n : ℕ) → ((k : ℕ) → fresh k ≡ true → k < n) → ((k : ℕ) → waiting k ≡ true → k < n) → (k : ℕ) → skip_insensitive a (pair fresh waiting) k ≡ true → k < n
skip_insensitive_below a fresh waiting n f w k e =
    elim (or_cases (fresh k) (waiting k) (and_parts (fresh k || waiting k) (some_below a.size (a.far k)) e).0) [ inl h ↦ f k h | inr h ↦ w k h ]

pub all_below : (f old : LeafSet) (n : ℕ) → ((k : ℕ) → old k ≡ nat_lt k n && f k) → ((k : ℕ) → f k ≡ true → k < n) → (k : ℕ) → old k ≡ f k
all_below f old n so_far below k =
    elim (cases_lt k n) [
      | inl h ↦ so_far k ∙ ap (λ b. b && f k) (lt_true k n h)
      | inr h ↦ so_far k ∙ ap (λ b. b && f k) (lt_false k n h) ∙ sym (false_from_ne_true (f k) (λ e. (let less = below k e in omega (arith, h, less))))
    ]

some_found : (n : ℕ) (s : LeafSet) → some_below n s ≡ true → (k : ℕ) × (k < n) × (s k ≡ true)
some_found zero s e = absurd (false≢true e)
some_found (suc n) s e =
    elim (or_cases (s n) (some_below n s) e) [
      | inl h ↦ (n, omega arith, h)
      | inr h ↦ let found = some_found n s h in (found.0, omega (arith, found.1), found.2)
    ]

row_below : (size : ℕ) (rows : List (List Bool)) → AreRows size rows → (j k : ℕ) → j < size → row rows j k ≡ true → k < size
row_below size rows are j k h e = (are.sets j [] (omega (arith, h, are.count))).below k e

-- no leaf from the size on may read
pub candidates_below : (c : Cea) (s : RunState) → IsWellFormed c → (k : ℕ) → candidates (automaton_of_cea c) s k ≡ true → k < c.size
candidates_below c start wf k e = wf.first.below k e
candidates_below c (pair fresh waiting) wf k e =
    let near = row c.near.items in
    let far = row c.far.items in
    let found = some_found c.size (λ j. fresh j && (near j k || far j k) || waiting j && far j k) e in
    let j = found.0 in
    elim (or_cases (fresh j && (near j k || far j k)) (waiting j && far j k) found.2) [
      | inl h ↦ elim (or_cases (near j k) (far j k) (and_parts (fresh j) (near j k || far j k) h).1) [
        | inl n ↦ row_below c.size c.near.items wf.near j k found.1 n
        | inr f ↦ row_below c.size c.far.items wf.far j k found.1 f
      ]
      | inr h ↦ row_below c.size c.far.items wf.far j k found.1 (and_parts (waiting j) (far j k) h).1
    ]

-- what may read, and can
pub readers_are : (c : Cea) (s : RunState) (can : LeafSet) (leaves : List Bool) → IsWellFormed c → length leaves ≡ room_for c.size → ((k : ℕ) → has leaves k ≡ candidates (automaton_of_cea c) s k && can k) → IsSet c.size leaves
readers_are c s can leaves wf room are = record {
  room = room;
  below = λ k e. candidates_below c s wf k (and_parts (candidates (automaton_of_cea c) s k) (can k) (sym (are k) ∙ e)).0;
}

pub either_first : (n : ℕ) (f g : LeafSet) (r : Bool) → r ≡ true → true ≡ some_below n f → r ≡ some_below n (λ k. f k || g k)
either_first n f g r e h = e ∙ rw (some_either n f g, ← h) refl

pub either_second : (n : ℕ) (f g : LeafSet) (r : Bool) → r ≡ some_below n g → false ≡ some_below n f → r ≡ some_below n (λ k. f k || g k)
either_second n f g r e h = e ∙ rw (some_either n f g, ← h) refl
