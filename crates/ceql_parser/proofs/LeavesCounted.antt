-- Counting up to a cap: sums and products of capped counts are capped sums and products.
use Rattle.std.proofs.Common.{◌≡◌, refl, sym, ap, ap₂, ◌∙◌, ℕ, zero, suc, ◌+◌, ◌*◌, ◌<◌, ◌≤◌, inl, inr, List, [], ◌∷◌, take, length, get_or, add-one, arith}
use Rattle.std.specs.Prelude.{Vec, Box}
use Rattle.std.specs.declared.alloc.Global.{Global}
use Rattle.std.proofs.lemmas.Bool.{cases_lt}
use Rattle.std.proofs.Math.Nat.{mul-zero, mul_comm, mul_assoc, le-mul_of_pos_right}
use Rattle.cel_terms.specs.declared.Filter.{Filter, All, Any, Row_of-Filter, end_of-Filter, more_of-Filter, items-the_row-Filter, items_hidden-the_row-Filter-0}
use Rattle.cel_terms.specs.declared.Link.{Link}
use Rattle.cel_terms.specs.declared.Formula.{Formula, Chain, Linked, Either, Row_of-Formula, end_of-Formula, more_of-Formula, items-the_row-Formula, items_hidden-the_row-Formula-0, Row_of-Link, end_of-Link, more_of-Link, items-the_row-Link, items_hidden-the_row-Link-1}
use Rattle.cel_terms.specs.Checked.{leaf_count, leaf_count_of_all, leaf_count_of_links, weight, product_of_weights, sum_of_weights, times_weights}
use Rattle.ceql_parser.specs.LinksAndCounts.{capped, link_leaves, sum_of, product_of}
use Rattle.ceql_parser.proofs.TermRows.{row_of, links_in, filters_in}

pub capped_at_most : (n : ℕ) → capped n ≤ 2049
capped_at_most n = omega arith

pub capped_sum : (a b : ℕ) → capped (capped a + capped b) ≡ capped (a + b)
capped_sum a b = omega arith

both_big : (x y : ℕ) → 2049 ≤ x → 2049 ≤ y → capped x ≡ capped y
both_big x y h k = omega arith

big_left : (a b : ℕ) → 2049 ≤ a → capped (2049 * capped b) ≡ capped (a * b)
big_left a zero h = ap capped (mul-zero 2049 ∙ sym (mul-zero a))
big_left a (suc b) h =
    let p : 2049 ≤ 2049 * capped (suc b) = le-mul_of_pos_right 2049 (omega arith) in
    let q : a ≤ a * suc b = le-mul_of_pos_right a (omega arith) in
    both_big (2049 * capped (suc b)) (a * suc b) p (omega (arith, q))

pub capped_product : (a b : ℕ) → capped (capped a * capped b) ≡ capped (a * b)
capped_product a b = elim (cases_lt 2049 a) [
  | inl h ↦ (let e : capped a ≡ 2049 = omega arith in ap (λ x. capped (x * capped b)) e ∙ big_left a b (omega arith))
  | inr h ↦ (let e : capped a ≡ a = omega arith in ap (λ x. capped (x * capped b)) e ∙ elim (cases_lt 2049 b) [
    | inl k ↦ (let f : capped b ≡ 2049 = omega arith in
        ap (λ x. capped (a * x)) f ∙ ap capped (mul_comm a 2049 ∙ ap (λ x. 2049 * x) (sym e)) ∙ big_left b a (omega arith) ∙ ap capped (mul_comm b a))
    | inr k ↦ (let f : capped b ≡ b = omega arith in ap (λ x. capped (a * x)) f)
  ])
]

more_sum : {X : Type 0} (count : X → ℕ) (xs : List X) (i : ℕ) (d : X) → i < length xs → sum_of count (take (suc i) xs) ≡ sum_of count (take i xs) + count (get_or xs i d)
more_sum count [] i d h = absurd (omega (arith, h))
more_sum count (x ∷ xs) zero d h = let f : count x + 0 ≡ 0 + count x = omega arith in f
more_sum count (x ∷ xs) (suc i) d h =
    let e = more_sum count xs i d (omega arith) in
    let f : count x + sum_of count (take (suc i) xs) ≡ (count x + sum_of count (take i xs)) + count (get_or xs i d) = omega (arith, e) in f

pub sum_more : {X : Type 0} (count : X → ℕ) (xs : List X) (i : ℕ) (d : X) → i < length xs → sum_of count (take (i + 1) xs) ≡ sum_of count (take i xs) + count (get_or xs i d)
sum_more count xs i d h = rw add-one (more_sum count xs i d h)

more_product : (xs : List Filter) (i : ℕ) (d : Filter) → i < length xs → product_of (take (suc i) xs) ≡ product_of (take i xs) * weight (get_or xs i d)
more_product [] i d h = absurd (omega (arith, h))
more_product (x ∷ xs) zero d h = mul_comm (weight x) 1
more_product (x ∷ xs) (suc i) d h =
    ap (λ n. weight x * n) (more_product xs i d (omega arith)) ∙ sym (mul_assoc (weight x) (product_of (take i xs)) (weight (get_or xs i d)))

pub product_more : (xs : List Filter) (i : ℕ) (d : Filter) → i < length xs → product_of (take (i + 1) xs) ≡ product_of (take i xs) * weight (get_or xs i d)
product_more xs i d h = rw add-one (more_product xs i d h)

products_listed : (n : _) (row : Row_of-Filter n) → product_of_weights row ≡ product_of (items-the_row-Filter n row)
products_listed n end_of-Filter = refl
products_listed n (more_of-Filter c rest) = ap (λ m. weight c * m) (products_listed _ rest)

sums_listed : (n : _) (row : Row_of-Filter n) → sum_of_weights row ≡ sum_of weight (items-the_row-Filter n row)
sums_listed n end_of-Filter = refl
sums_listed n (more_of-Filter c rest) = ap (λ m. weight c + m) (sums_listed _ rest)

pub all_weigh : (filters : Vec Filter Global) → weight (All filters) ≡ product_of filters.items
all_weigh filters =
    let row = filters_in (All filters) in
    products_listed row.0 row.1 ∙ ap product_of (items_hidden-the_row-Filter-0 filters)

pub any_weigh : (filters : Vec Filter Global) → weight (Any filters) ≡ sum_of weight filters.items
any_weigh filters =
    let row = filters_in (Any filters) in
    sums_listed row.0 row.1 ∙ ap (sum_of weight) (items_hidden-the_row-Filter-0 filters)

pub times_is : (n : ℕ) (filters : List Filter) → times_weights n filters ≡ n * product_of filters
times_is n [] = omega arith
times_is n (c ∷ cs) = times_is (n * weight c) cs ∙ mul_assoc n (weight c) (product_of cs)

leaves_listed : (n : _) (row : Row_of-Formula n) → leaf_count_of_all row ≡ sum_of leaf_count (items-the_row-Formula n row)
leaves_listed n end_of-Formula = refl
leaves_listed n (more_of-Formula f rest) = ap (λ m. leaf_count f + m) (leaves_listed _ rest)

links_listed : (n : _) (row : Row_of-Link n) → leaf_count_of_links row ≡ sum_of link_leaves (items-the_row-Link n row)
links_listed n end_of-Link = refl
links_listed n (more_of-Link tight next rest) = ap (λ m. leaf_count next + m) (links_listed _ rest)

pub chain_leaves : (parts : Vec Formula Global) → leaf_count (Chain parts) ≡ sum_of leaf_count parts.items
chain_leaves parts =
    let row = row_of (Chain parts) in
    leaves_listed row.0 row.1 ∙ ap (sum_of leaf_count) (items_hidden-the_row-Formula-0 parts)

pub choice_leaves : (choices : Vec Formula Global) → leaf_count (Either choices) ≡ sum_of leaf_count choices.items
choice_leaves choices =
    let row = row_of (Either choices) in
    leaves_listed row.0 row.1 ∙ ap (sum_of leaf_count) (items_hidden-the_row-Formula-0 choices)

pub linked_leaves : (first : Box Formula Global) (links : Vec Link Global) → leaf_count (Linked first links) ≡ leaf_count first.value + sum_of link_leaves links.items
linked_leaves first links =
    let row = links_in (Linked first links) in
    ap (λ m. leaf_count first.value + m) (links_listed row.0 row.1 ∙ ap (sum_of link_leaves) (items_hidden-the_row-Link-1 links))

-- one filter more, and one item more
pub product_kept : (xs : List Filter) (i : ℕ) (x : Filter) (p w r : ℕ) → i < length xs → x ≡ get_or xs i x → p ≡ capped (product_of (take i xs)) → w ≡ capped (weight x) → r ≡ capped (p * w) → r ≡ capped (product_of (take (i + 1) xs))
product_kept xs i x p w r h at before here e =
    e ∙ ap₂ (λ a b. capped (a * b)) before here ∙ capped_product (product_of (take i xs)) (weight x)
    ∙ ap capped (ap (λ y. product_of (take i xs) * weight y) at ∙ sym (product_more xs i x h))

pub sum_kept : {X : Type 0} (count : X → ℕ) (xs : List X) (i : ℕ) (x : X) (s w r : ℕ) → i < length xs → x ≡ get_or xs i x → s ≡ capped (sum_of count (take i xs)) → w ≡ capped (count x) → r ≡ capped (s + w) → r ≡ capped (sum_of count (take (i + 1) xs))
sum_kept count xs i x s w r h at before here e =
    e ∙ ap₂ (λ a b. capped (a + b)) before here ∙ capped_sum (sum_of count (take i xs)) (count x)
    ∙ ap capped (ap (λ y. sum_of count (take i xs) + count y) at ∙ sym (sum_more count xs i x h))
