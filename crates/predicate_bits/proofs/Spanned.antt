-- What comparisons may come to over a span of numbers.
use Rattle.std.proofs.Common.{◌≡◌, refl, sym, ap, subst, ◌∙◌, ℕ, suc, ◌+◌, ◌*◌, ◌^◌, ◌<◌, ◌≤◌, ℤ, pos, negsuc, neg_ℤ, ◌*ℤ◌, ◌≤ℤ◌, ◌<ℤ◌, Bool, true, false, not, ◌&&◌, ◌||◌, List, length, take, get_or, Less, Equal, Greater, arith}
use Rattle.std.proofs.Math.IntN.{pos-*ℤ-pos, negsuc-*ℤ-pos}
use Rattle.std.proofs.Math.Nat.{mul-le-mul_right}
use Rattle.std.proofs.lemmas.Int.{ints}
use Rattle.std.proofs.lemmas.Bool.{and_parts, or_left, or_right, false≢true}
use Rattle.std.proofs.lemmas.List.Folds.{list_all_more, list_any_more}
use Rattle.std.specs.List.{list_all, list_any}
use Rattle.std.specs.declared.cmp.Ordering.{Ordering}
use Rattle.std.specs.Cmp.Lexicographic.{slice_cmp}
use Rattle.std.proofs.lemmas.Map.Lookups.{exact_bytes}
use Rattle.std.specs.Ordering.{int_cmp, nat_cmp, is_lt, is_gt, is_eq, MatchOrdering}
use Rattle.std.specs.Cmp.{int_ranks}
use Rattle.stream_schema.specs.declared.Event.{Event}
use Rattle.stream_schema.specs.declared.Kind.TheVariants as kind
use Rattle.stream_schema.specs.declared.Op.{Op}
use Rattle.stream_schema.specs.declared.Op.TheVariants.{Eq, Ne, Lt, Le, Gt, Ge}
use Rattle.stream_schema.specs.declared.Value.{Value}
use Rattle.stream_schema.specs.declared.Value.TheVariants as value
use Rattle.stream_schema.specs.Comparing.{meets, value_meets}
use Rattle.query_leaves.specs.declared.Test.{Test}
use Rattle.query_leaves.specs.Shapes.{test_holds}
use Rattle.predicate_bits.specs.declared.spans.Outcome.{Outcome}
use Rattle.predicate_bits.specs.declared.spans.Span.{Span}
use Rattle.query_leaves.specs.Digests.{digest}
use Rattle.predicate_bits.specs.Spans.{allows, IsNumber, IsNumbered, IsOf, IsAtMost, IsBetween}

pos_le : (m n : ℕ) → m ≤ n → pos m ≤ℤ pos n
pos_le m n le = omega (arith, ints)

le_pos : (m n : ℕ) → pos m ≤ℤ pos n → m ≤ n
le_pos m n le = omega (arith, ints)

neg_le : (m n : ℕ) → n ≤ m → neg_ℤ (pos m) ≤ℤ neg_ℤ (pos n)
neg_le m n le = omega (arith, ints)

le_negsuc : (m n : ℕ) → negsuc m ≤ℤ negsuc n → suc n ≤ suc m
le_negsuc m n le = omega (arith, ints)

neg_pos : (m n : ℕ) → neg_ℤ (pos m) ≤ℤ pos n
neg_pos m n = omega (arith, ints)

pos_negsuc : (m n : ℕ) → pos m ≤ℤ negsuc n → ⊥
pos_negsuc m n le = omega (arith, ints)

-- a greater number stays greater where both are multiplied
pub times_stays : (a b : ℤ) (k : ℕ) → a ≤ℤ b → (a *ℤ pos k) ≤ℤ (b *ℤ pos k)
times_stays (pos m) (pos n) k le = subst (λ z. z ≤ℤ (pos n *ℤ pos k)) (sym (pos-*ℤ-pos m k)) (subst (λ z. pos (m * k) ≤ℤ z) (sym (pos-*ℤ-pos n k)) (pos_le (m * k) (n * k) (mul-le-mul_right k (le_pos m n le))))
times_stays (pos m) (negsuc n) k le = absurd (pos_negsuc m n le)
times_stays (negsuc m) (pos n) k le = subst (λ z. z ≤ℤ (pos n *ℤ pos k)) (sym (negsuc-*ℤ-pos m k)) (subst (λ z. neg_ℤ (pos (suc m * k)) ≤ℤ z) (sym (pos-*ℤ-pos n k)) (neg_pos (suc m * k) (n * k)))
times_stays (negsuc m) (negsuc n) k le = subst (λ z. z ≤ℤ (negsuc n *ℤ pos k)) (sym (negsuc-*ℤ-pos m k)) (subst (λ z. neg_ℤ (pos (suc m * k)) ≤ℤ z) (sym (negsuc-*ℤ-pos n k)) (neg_le (suc m * k) (suc n * k) (mul-le-mul_right k (le_negsuc m n le))))

-- what the order of two numbers tells
lt_from : (x m : ℤ) (r : Ordering) → MatchOrdering r (x <ℤ m) (x ≡ m) (m <ℤ x) → is_lt r ≡ true → x <ℤ m
lt_from x m Less h e = h
lt_from x m Equal h e = absurd cc
lt_from x m Greater h e = absurd cc

lt_to : (x m : ℤ) (r : Ordering) → MatchOrdering r (x <ℤ m) (x ≡ m) (m <ℤ x) → x <ℤ m → is_lt r ≡ true
lt_to x m Less h e = refl
lt_to x m Equal h e = absurd (omega (arith, ints))
lt_to x m Greater h e = absurd (omega (arith, ints))

gt_from : (x m : ℤ) (r : Ordering) → MatchOrdering r (x <ℤ m) (x ≡ m) (m <ℤ x) → is_gt r ≡ true → m <ℤ x
gt_from x m Less h e = absurd cc
gt_from x m Equal h e = absurd cc
gt_from x m Greater h e = h

gt_to : (x m : ℤ) (r : Ordering) → MatchOrdering r (x <ℤ m) (x ≡ m) (m <ℤ x) → m <ℤ x → is_gt r ≡ true
gt_to x m Less h e = absurd (omega (arith, ints))
gt_to x m Equal h e = absurd (omega (arith, ints))
gt_to x m Greater h e = refl

-- what is below a number that is less is less, and what is above one that is greater is greater
less_down : (a b m : ℤ) → a ≤ℤ b → is_lt (int_cmp b m) ≡ true → is_lt (int_cmp a m) ≡ true
less_down a b m le e = let lt = lt_from b m (int_cmp b m) (int_ranks b m) e in lt_to a m (int_cmp a m) (int_ranks a m) (omega (arith, ints))

more_up : (a b m : ℤ) → a ≤ℤ b → is_gt (int_cmp a m) ≡ true → is_gt (int_cmp b m) ≡ true
more_up a b m le e = let lt = gt_from a m (int_cmp a m) (int_ranks a m) e in gt_to b m (int_cmp b m) (int_ranks b m) (omega (arith, ints))

turned : (x y : Bool) → (x ≡ true → y ≡ true) → not y ≡ true → not x ≡ true
turned true true h e = e
turned true false h e = absurd (false≢true (h refl))
turned false y h e = refl

-- A comparison that holds of what is below a number of which it holds; and of what is above.
abbrev pub HoldsBelow : Op → Type 0
HoldsBelow op = (a b m : ℤ) → a ≤ℤ b → meets op (int_cmp b m) ≡ true → meets op (int_cmp a m) ≡ true

abbrev pub HoldsAbove : Op → Type 0
HoldsAbove op = (a b m : ℤ) → a ≤ℤ b → meets op (int_cmp a m) ≡ true → meets op (int_cmp b m) ≡ true

pub lt_below : HoldsBelow Lt
lt_below = less_down

pub le_below : HoldsBelow Le
le_below a b m le = turned (is_gt (int_cmp a m)) (is_gt (int_cmp b m)) (more_up a b m le)

pub gt_above : HoldsAbove Gt
gt_above = more_up

pub ge_above : HoldsAbove Ge
ge_above a b m le = turned (is_lt (int_cmp b m)) (is_lt (int_cmp a m)) (less_down a b m le)

-- and so of values with as many places
value_below : (op : Op) → HoldsBelow op → (x y literal : Value) → IsAtMost x y → IsNumber literal → value_meets op y literal ≡ true → value_meets op x literal ≡ true
value_below op below (value.Int a) (value.Int b) (value.Int m) le is h = below (a *ℤ pos (10 ^ 0)) (b *ℤ pos (10 ^ 0)) (m *ℤ pos (10 ^ 0)) (times_stays a b (10 ^ 0) le) h
value_below op below (value.Int a) (value.Int b) (value.Dec m q) le is h = below (a *ℤ pos (10 ^ q)) (b *ℤ pos (10 ^ q)) (m *ℤ pos (10 ^ 0)) (times_stays a b (10 ^ q) le) h
value_below op below (value.Dec a p) (value.Dec b r) (value.Int m) le is h = below (a *ℤ pos (10 ^ 0)) (b *ℤ pos (10 ^ 0)) (m *ℤ pos (10 ^ p)) (times_stays a b (10 ^ 0) le.0) (subst (λ z. value_meets op (value.Dec b z) (value.Int m) ≡ true) (sym le.1) h)
value_below op below (value.Dec a p) (value.Dec b r) (value.Dec m q) le is h = below (a *ℤ pos (10 ^ q)) (b *ℤ pos (10 ^ q)) (m *ℤ pos (10 ^ p)) (times_stays a b (10 ^ q) le.0) (subst (λ z. value_meets op (value.Dec b z) (value.Dec m q) ≡ true) (sym le.1) h)
value_below op below (value.Int a) (value.Int b) (value.Text t) le is h = absurd is
value_below op below (value.Int a) (value.Int b) (value.Flag t) le is h = absurd is
value_below op below (value.Dec a p) (value.Dec b r) (value.Text t) le is h = absurd is
value_below op below (value.Dec a p) (value.Dec b r) (value.Flag t) le is h = absurd is
value_below op below (value.Int a) (value.Text t) literal le is h = absurd le
value_below op below (value.Int a) (value.Flag t) literal le is h = absurd le
value_below op below (value.Int a) (value.Dec t p) literal le is h = absurd le
value_below op below (value.Dec a p) (value.Int t) literal le is h = absurd le
value_below op below (value.Dec a p) (value.Text t) literal le is h = absurd le
value_below op below (value.Dec a p) (value.Flag t) literal le is h = absurd le
value_below op below (value.Text a) y literal le is h = absurd le
value_below op below (value.Flag a) y literal le is h = absurd le

value_above : (op : Op) → HoldsAbove op → (x y literal : Value) → IsAtMost x y → IsNumber literal → value_meets op x literal ≡ true → value_meets op y literal ≡ true
value_above op above (value.Int a) (value.Int b) (value.Int m) le is h = above (a *ℤ pos (10 ^ 0)) (b *ℤ pos (10 ^ 0)) (m *ℤ pos (10 ^ 0)) (times_stays a b (10 ^ 0) le) h
value_above op above (value.Int a) (value.Int b) (value.Dec m q) le is h = above (a *ℤ pos (10 ^ q)) (b *ℤ pos (10 ^ q)) (m *ℤ pos (10 ^ 0)) (times_stays a b (10 ^ q) le) h
value_above op above (value.Dec a p) (value.Dec b r) (value.Int m) le is h = subst (λ z. value_meets op (value.Dec b z) (value.Int m) ≡ true) le.1 (above (a *ℤ pos (10 ^ 0)) (b *ℤ pos (10 ^ 0)) (m *ℤ pos (10 ^ p)) (times_stays a b (10 ^ 0) le.0) h)
value_above op above (value.Dec a p) (value.Dec b r) (value.Dec m q) le is h = subst (λ z. value_meets op (value.Dec b z) (value.Dec m q) ≡ true) le.1 (above (a *ℤ pos (10 ^ q)) (b *ℤ pos (10 ^ q)) (m *ℤ pos (10 ^ p)) (times_stays a b (10 ^ q) le.0) h)
value_above op above (value.Int a) (value.Int b) (value.Text t) le is h = absurd is
value_above op above (value.Int a) (value.Int b) (value.Flag t) le is h = absurd is
value_above op above (value.Dec a p) (value.Dec b r) (value.Text t) le is h = absurd is
value_above op above (value.Dec a p) (value.Dec b r) (value.Flag t) le is h = absurd is
value_above op above (value.Int a) (value.Text t) literal le is h = absurd le
value_above op above (value.Int a) (value.Flag t) literal le is h = absurd le
value_above op above (value.Int a) (value.Dec t p) literal le is h = absurd le
value_above op above (value.Dec a p) (value.Int t) literal le is h = absurd le
value_above op above (value.Dec a p) (value.Text t) literal le is h = absurd le
value_above op above (value.Dec a p) (value.Flag t) literal le is h = absurd le
value_above op above (value.Text a) y literal le is h = absurd le
value_above op above (value.Flag a) y literal le is h = absurd le

-- equal is what is neither greater nor less
order_equal : (r : Ordering) → is_eq r ≡ (not (is_gt r) && not (is_lt r))
order_equal Less = refl
order_equal Equal = refl
order_equal Greater = refl

value_equal : (x y literal : Value) → IsAtMost x y → IsNumber literal → value_meets Eq x literal ≡ (value_meets Le x literal && value_meets Ge x literal)
value_equal (value.Int a) y (value.Int m) le is = order_equal _
value_equal (value.Int a) y (value.Dec m q) le is = order_equal _
value_equal (value.Dec a p) y (value.Int m) le is = order_equal _
value_equal (value.Dec a p) y (value.Dec m q) le is = order_equal _
value_equal (value.Int a) y (value.Text t) le is = absurd is
value_equal (value.Int a) y (value.Flag t) le is = absurd is
value_equal (value.Dec a p) y (value.Text t) le is = absurd is
value_equal (value.Dec a p) y (value.Flag t) le is = absurd is
value_equal (value.Text a) y literal le is = absurd le
value_equal (value.Flag a) y literal le is = absurd le

-- what a comparison may come to by the first and the last number
by_ends : (b first last : Bool) → (b ≡ true → first ≡ true) → (last ≡ true → b ≡ true) → allows (record { may_hold = first; may_fail = not last }) b ≡ true
by_ends true first last up down = up refl
by_ends false first true up down = absurd (false≢true (down refl))
by_ends false first false up down = refl

pub over_below : (op : Op) → HoldsBelow op → (first v last literal : Value) → IsBetween first v last → IsNumber literal → allows (record { may_hold = value_meets op first literal; may_fail = not (value_meets op last literal) }) (value_meets op v literal) ≡ true
over_below op below first v last literal between is = by_ends _ _ _ (value_below op below first v literal between.0 is) (value_below op below v last literal between.1 is)

pub over_above : (op : Op) → HoldsAbove op → (first v last literal : Value) → IsBetween first v last → IsNumber literal → allows (record { may_hold = value_meets op last literal; may_fail = not (value_meets op first literal) }) (value_meets op v literal) ≡ true
over_above op above first v last literal between is = by_ends _ _ _ (value_above op above v last literal between.1 is) (value_above op above first v literal between.0 is)

both : (a b : Bool) → a ≡ true → b ≡ true → a && b ≡ true
both true b e f = f
both false b e f = e

pub over_equal : (first v last literal : Value) → IsBetween first v last → IsNumber literal → allows (record { may_hold = value_meets Le first literal && value_meets Ge last literal; may_fail = not (value_meets Ge first literal && value_meets Le last literal) }) (value_meets Eq v literal) ≡ true
over_equal first v last literal between is = by_ends (value_meets Eq v literal) (value_meets Le first literal && value_meets Ge last literal) (value_meets Ge first literal && value_meets Le last literal)
    (λ e. (
    let two = and_parts (value_meets Le v literal) (value_meets Ge v literal) (sym (value_equal v last literal between.1 is) ∙ e) in
    both (value_meets Le first literal) (value_meets Ge last literal) (value_below Le le_below first v literal between.0 is two.0) (value_above Ge ge_above v last literal between.1 is two.1)))
    (λ e. (
    let two = and_parts (value_meets Ge first literal) (value_meets Le last literal) e in
    value_equal v last literal between.1 is ∙ both (value_meets Le v literal) (value_meets Ge v literal) (value_below Le le_below v last literal between.1 is two.1) (value_above Ge ge_above first v literal between.0 is two.0)))

-- as the code reads them
pub read_below : (op own : Op) → HoldsBelow own → op ≡ own → (first last literal : Value) (h l : Bool) → h ≡ value_meets own first literal → l ≡ value_meets own last literal → IsNumber literal → (v : Value) → IsBetween first v last → allows (record { may_hold = h; may_fail = not l }) (value_meets op v literal) ≡ true
read_below op own below is first last literal h l at_first at_last number v between =
    subst (λ o. allows (record { may_hold = h; may_fail = not l }) (value_meets o v literal) ≡ true) (sym is)
    (subst (λ x. allows (record { may_hold = x; may_fail = not l }) (value_meets own v literal) ≡ true) (sym at_first)
    (subst (λ y. allows (record { may_hold = value_meets own first literal; may_fail = not y }) (value_meets own v literal) ≡ true) (sym at_last) (over_below own below first v last literal between number)))

pub read_above : (op own : Op) → HoldsAbove own → op ≡ own → (first last literal : Value) (l h : Bool) → l ≡ value_meets own first literal → h ≡ value_meets own last literal → IsNumber literal → (v : Value) → IsBetween first v last → allows (record { may_hold = h; may_fail = not l }) (value_meets op v literal) ≡ true
read_above op own above is first last literal l h at_first at_last number v between =
    subst (λ o. allows (record { may_hold = h; may_fail = not l }) (value_meets o v literal) ≡ true) (sym is)
    (subst (λ x. allows (record { may_hold = x; may_fail = not l }) (value_meets own v literal) ≡ true) (sym at_last)
    (subst (λ y. allows (record { may_hold = value_meets own last literal; may_fail = not y }) (value_meets own v literal) ≡ true) (sym at_first) (over_above own above first v last literal between number)))

pub read_equal : (first last literal : Value) (b e l m : Bool) → b ≡ value_meets Le first literal → e ≡ value_meets Ge last literal → l ≡ value_meets Ge first literal → m ≡ value_meets Le last literal → IsNumber literal → (v : Value) → IsBetween first v last → allows (record { may_hold = b && e; may_fail = not (l && m) }) (value_meets Eq v literal) ≡ true
read_equal first last literal b e l m is_b is_e is_l is_m number v between =
    subst (λ x. allows (record { may_hold = x && e; may_fail = not (l && m) }) (value_meets Eq v literal) ≡ true) (sym is_b)
    (subst (λ x. allows (record { may_hold = value_meets Le first literal && x; may_fail = not (l && m) }) (value_meets Eq v literal) ≡ true) (sym is_e)
    (subst (λ x. allows (record { may_hold = value_meets Le first literal && value_meets Ge last literal; may_fail = not (x && m) }) (value_meets Eq v literal) ≡ true) (sym is_l)
    (subst (λ x. allows (record { may_hold = value_meets Le first literal && value_meets Ge last literal; may_fail = not (value_meets Ge first literal && x) }) (value_meets Eq v literal) ≡ true) (sym is_m) (over_equal first v last literal between number))))

-- what two tests may come to together, and what one of them may
allows_both : (o p : Outcome) (a b : Bool) → allows o a ≡ true → allows p b ≡ true → allows (record { may_hold = o.may_hold && p.may_hold; may_fail = o.may_fail || p.may_fail }) (a && b) ≡ true
allows_both o p true true h g = both o.may_hold p.may_hold h g
allows_both o p true false h g = or_right o.may_fail p.may_fail g
allows_both o p false b h g = or_left o.may_fail p.may_fail h

allows_either : (o p : Outcome) (a b : Bool) → allows o a ≡ true → allows p b ≡ true → allows (record { may_hold = o.may_hold || p.may_hold; may_fail = o.may_fail && p.may_fail }) (a || b) ≡ true
allows_either o p true b h g = or_left o.may_hold p.may_hold h
allows_either o p false true h g = or_right o.may_hold p.may_hold g
allows_either o p false false h g = both o.may_fail p.may_fail h g

-- of one test more
pub all_more : (tests : List Test) (k : ℕ) (x : Test) (o p : Outcome) (event : Event) → k < length tests → x ≡ get_or tests k x → allows o (list_all (λ t. test_holds t event) (take k tests)) ≡ true → allows p (test_holds x event) ≡ true → allows (record { may_hold = o.may_hold && p.may_hold; may_fail = o.may_fail || p.may_fail }) (list_all (λ t. test_holds t event) (take (k + 1) tests)) ≡ true
all_more tests k x o p event inside is h g =
    subst (λ b. allows (record { may_hold = o.may_hold && p.may_hold; may_fail = o.may_fail || p.may_fail }) b ≡ true)
    (ap (λ y. list_all (λ t. test_holds t event) (take k tests) && test_holds y event) is ∙ sym (list_all_more (λ t. test_holds t event) tests k x inside))
    (allows_both o p (list_all (λ t. test_holds t event) (take k tests)) (test_holds x event) h g)

pub any_more : (tests : List Test) (k : ℕ) (x : Test) (o p : Outcome) (event : Event) → k < length tests → x ≡ get_or tests k x → allows o (list_any (λ t. test_holds t event) (take k tests)) ≡ true → allows p (test_holds x event) ≡ true → allows (record { may_hold = o.may_hold || p.may_hold; may_fail = o.may_fail && p.may_fail }) (list_any (λ t. test_holds t event) (take (k + 1) tests)) ≡ true
any_more tests k x o p event inside is h g =
    subst (λ b. allows (record { may_hold = o.may_hold || p.may_hold; may_fail = o.may_fail && p.may_fail }) b ≡ true)
    (ap (λ y. list_any (λ t. test_holds t event) (take k tests) || test_holds y event) is ∙ sym (list_any_more (λ t. test_holds t event) tests k x inside))
    (allows_either o p (list_any (λ t. test_holds t event) (take k tests)) (test_holds x event) h g)

-- what is not the case of all tests of a leaf
pub not_held : (o : Outcome) (a b : Bool) → allows o a ≡ true → a ≡ b → o.may_hold ≡ false → b ≡ false
not_held o true b h is none = absurd (false≢true (sym none ∙ h))
not_held o false b h is none = sym is

-- texts that compare as equal are one
equal_text : (a b : List ℕ) → is_eq (slice_cmp nat_cmp a b) ≡ true → a ≡ b
equal_text a b h = exact_bytes a b (equal (slice_cmp nat_cmp a b) h)
  where
    equal : (o : Ordering) → is_eq o ≡ true → o ≡ Equal
    equal Less e = absurd cc
    equal Equal e = refl
    equal Greater e = absurd cc

not_false : (b : Bool) → (b ≡ false → ⊥) → b ≡ true
not_false true h = refl
not_false false h = absurd (h refl)

not_not : (b : Bool) → not b ≡ false → b ≡ true
not_not true h = refl
not_not false h = absurd (false≢true (sym h))

-- a text of the span that is one with another has its number
has_text : (span : Span) (u t : List ℕ) (has : Bool) → span.kind ≡ kind.Text → IsOf span (value.Text u) → (has ≡ false → span.low ≤ℤ pos (digest t) → pos (digest t) ≤ℤ span.high → ⊥) → u ≡ t → has ≡ true
has_text span u t has is of none same =
    let numbered : IsNumbered kind.Text (value.Text u) of.0 = subst (λ k. IsNumbered k (value.Text u) of.0) is of.1 in
    let at : of.0 ≡ pos (digest t) = sym numbered ∙ ap (λ x. pos (digest x)) same in
    not_false has (λ no. none no (subst (λ n. span.low ≤ℤ n) at of.2) (subst (λ n. n ≤ℤ span.high) at of.3))

no_text : (span : Span) (v : Value) → span.kind ≡ kind.Text → (number : ℤ) → IsNumbered span.kind v number → IsNumbered kind.Text v number
no_text span v is number n = subst (λ k. IsNumbered k v number) is n

by_hold : (has b : Bool) → (b ≡ true → has ≡ true) → allows (record { may_hold = has; may_fail = true }) b ≡ true
by_hold has true h = h refl
by_hold has false h = refl

by_fail : (has b : Bool) → (b ≡ false → has ≡ true) → allows (record { may_hold = true; may_fail = has }) b ≡ true
by_fail has true h = refl
by_fail has false h = h refl

over_texts_eq : (span : Span) (t : List ℕ) (has : Bool) → span.kind ≡ kind.Text → (has ≡ false → span.low ≤ℤ pos (digest t) → pos (digest t) ≤ℤ span.high → ⊥) → (v : Value) → IsOf span v → allows (record { may_hold = has; may_fail = true }) (value_meets Eq v (value.Text t)) ≡ true
over_texts_eq span t has is none (value.Text u) of = by_hold has (value_meets Eq (value.Text u) (value.Text t)) (λ h. has_text span u t has is of none (equal_text u t h))
over_texts_eq span t has is none (value.Int n) of = absurd (no_text span (value.Int n) is of.0 of.1)
over_texts_eq span t has is none (value.Flag n) of = absurd (no_text span (value.Flag n) is of.0 of.1)
over_texts_eq span t has is none (value.Dec n p) of = absurd (no_text span (value.Dec n p) is of.0 of.1)

over_texts_ne : (span : Span) (t : List ℕ) (has : Bool) → span.kind ≡ kind.Text → (has ≡ false → span.low ≤ℤ pos (digest t) → pos (digest t) ≤ℤ span.high → ⊥) → (v : Value) → IsOf span v → allows (record { may_hold = true; may_fail = has }) (value_meets Ne v (value.Text t)) ≡ true
over_texts_ne span t has is none (value.Text u) of = by_fail has (value_meets Ne (value.Text u) (value.Text t)) (λ h. has_text span u t has is of none (equal_text u t (not_not (is_eq (slice_cmp nat_cmp u t)) h)))
over_texts_ne span t has is none (value.Int n) of = absurd (no_text span (value.Int n) is of.0 of.1)
over_texts_ne span t has is none (value.Flag n) of = absurd (no_text span (value.Flag n) is of.0 of.1)
over_texts_ne span t has is none (value.Dec n p) of = absurd (no_text span (value.Dec n p) is of.0 of.1)

-- as the code reads them
pub read_text_eq : (span : Span) (op : Op) (literal : Value) (t : List ℕ) (has : Bool) → span.kind ≡ kind.Text → op ≡ Eq → literal ≡ value.Text t → (has ≡ false → span.low ≤ℤ pos (digest t) → pos (digest t) ≤ℤ span.high → ⊥) → (v : Value) → IsOf span v → allows (record { may_hold = has; may_fail = true }) (value_meets op v literal) ≡ true
read_text_eq span op literal t has is equals reads none v of = subst (λ o. allows (record { may_hold = has; may_fail = true }) (value_meets o v literal) ≡ true) (sym equals) (subst (λ l. allows (record { may_hold = has; may_fail = true }) (value_meets Eq v l) ≡ true) (sym reads) (over_texts_eq span t has is none v of))

pub read_text_ne : (span : Span) (op : Op) (literal : Value) (t : List ℕ) (has : Bool) → span.kind ≡ kind.Text → op ≡ Ne → literal ≡ value.Text t → (has ≡ false → span.low ≤ℤ pos (digest t) → pos (digest t) ≤ℤ span.high → ⊥) → (v : Value) → IsOf span v → allows (record { may_hold = true; may_fail = has }) (value_meets op v literal) ≡ true
read_text_ne span op literal t has is equals reads none v of = subst (λ o. allows (record { may_hold = true; may_fail = has }) (value_meets o v literal) ≡ true) (sym equals) (subst (λ l. allows (record { may_hold = true; may_fail = has }) (value_meets Ne v l) ≡ true) (sym reads) (over_texts_ne span t has is none v of))
