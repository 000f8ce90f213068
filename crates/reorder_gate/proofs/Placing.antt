-- Placing one item, and sorting by placing each.
use Rattle.std.proofs.Common.{◌≡◌, ℤ, ◌≤ℤ◌, ◌<ℤ◌, Bool, true, false, cond, List, [], ◌∷◌, ◌++◌, refl, ap, ◌∙◌, append_assoc, append-nil, arith}
use Rattle.std.specs.Prelude.{int_lt}
use Rattle.std.specs.List.{AllByRecursion, fold}
use Rattle.std.specs.List.Sorted.{IsPermutation}
use Rattle.std.specs.Ordering.{int_eq}
use Rattle.std.proofs.lemmas.Bool.{cond_both}
use Rattle.std.proofs.lemmas.Int.{ints}
use Rattle.std.proofs.lemmas.List.Sorted.{IsPermutation-refl, IsPermutation-trans, IsPermutation-sym, IsPermutation-cons, IsPermutation-middle, IsPermutation-append_left}
use Rattle.reorder_gate.specs.Sorting.{placed, sorted, Ascends, at_clock, IsInOrder}

pub all_by : {A : Type 0} (P Q : A → Type 0) → ((x : A) → P x → Q x) → (xs : List A) → AllByRecursion P xs → AllByRecursion Q xs
all_by P Q f [] all = tt
all_by P Q f (x ∷ xs) all = (f x all.0, all_by P Q f xs all.1)

pub all_append : {A : Type 0} (P : A → Type 0) (xs ys : List A) → AllByRecursion P xs → AllByRecursion P ys → AllByRecursion P (xs ++ ys)
all_append P [] ys a b = b
all_append P (x ∷ xs) ys a b = (a.0, all_append P xs ys a.1 b)

pub equal_test : (a b : ℤ) → int_eq a b ≡ true → a ≡ b
equal_test a b e = grind (arith, ints)

pub unequal_test : (a b : ℤ) → a <ℤ b → int_eq b a ≡ false
unequal_test a b l = grind (arith, ints)

pub itself_test : (a : ℤ) → int_eq a a ≡ true
itself_test a = grind (arith, ints)

pub less_test : (a b : ℤ) → int_lt a b ≡ true → a <ℤ b
less_test a b e = grind (arith, ints)

pub not_less_test : (a b : ℤ) → int_lt a b ≡ false → b ≤ℤ a
not_less_test a b e = grind (arith, ints)

pub test_less : (a b : ℤ) → a <ℤ b → int_lt a b ≡ true
test_less a b l = grind (arith, ints)

pub test_not_less : (a b : ℤ) → b ≤ℤ a → int_lt a b ≡ false
test_not_less a b l = grind (arith, ints)

module _ {A : Type 0} (clock : A → ℤ) where
  -- sorting, begun with what is sorted
  abbrev pub onto : List A → List A → List A
  onto before list = fold (λ before x. placed clock x before) before list

  placed_moves : (x : A) (ys : List A) → IsPermutation (x ∷ ys) (placed clock x ys)
  placed_moves x [] = IsPermutation-refl (x ∷ [])
  placed_moves x (y ∷ ys) = cond_both (int_lt (clock x) (clock y)) (x ∷ y ∷ ys) (y ∷ placed clock x ys) (IsPermutation (x ∷ y ∷ ys))
      (λ _. IsPermutation-refl (x ∷ y ∷ ys))
      (λ _. IsPermutation-trans (x ∷ y ∷ ys) (y ∷ x ∷ ys) (y ∷ placed clock x ys) (IsPermutation-sym (y ∷ x ∷ ys) (x ∷ y ∷ ys) (IsPermutation-middle (y ∷ []) x ys)) (IsPermutation-cons y (x ∷ ys) (placed clock x ys) (placed_moves x ys)))

  pub onto_moves : (before list : List A) → IsPermutation (before ++ list) (onto before list)
  onto_moves before [] = rw append-nil (IsPermutation-refl before)
  onto_moves before (x ∷ xs) = IsPermutation-trans (before ++ x ∷ xs) (placed clock x before ++ xs) (onto before (x ∷ xs))
      (IsPermutation-trans (before ++ x ∷ xs) (x ∷ (before ++ xs)) (placed clock x before ++ xs) (IsPermutation-middle before x xs) (IsPermutation-append_left xs (x ∷ before) (placed clock x before) (placed_moves x before)))
      (onto_moves (placed clock x before) xs)

  pub all_placed : (P : A → Type 0) (x : A) (ys : List A) → P x → AllByRecursion P ys → AllByRecursion P (placed clock x ys)
  all_placed P x [] p all = (p, tt)
  all_placed P x (y ∷ ys) p all = cond_both (int_lt (clock x) (clock y)) (x ∷ y ∷ ys) (y ∷ placed clock x ys) (AllByRecursion P) (λ _. (p, all)) (λ _. (all.0, all_placed P x ys p all.1))

  pub all_onto : (P : A → Type 0) (before list : List A) → AllByRecursion P before → AllByRecursion P list → AllByRecursion P (onto before list)
  all_onto P before [] a b = a
  all_onto P before (x ∷ xs) a b = all_onto P (placed clock x before) xs (all_placed P x before b.0 a) b.1

  pub ascends_placed : (x : A) (ys : List A) → Ascends clock ys → Ascends clock (placed clock x ys)
  ascends_placed x [] up = (tt, tt)
  ascends_placed x (y ∷ ys) up = cond_both (int_lt (clock x) (clock y)) (x ∷ y ∷ ys) (y ∷ placed clock x ys) (Ascends clock)
      (λ e. let less = less_test (clock x) (clock y) e in
      ((omega (arith, ints), all_by (λ z. clock y ≤ℤ clock z) (λ z. clock x ≤ℤ clock z) (λ z l. omega (arith, ints)) ys up.0), up))
      (λ e. (all_placed (λ z. clock y ≤ℤ clock z) x ys (not_less_test (clock x) (clock y) e) up.0, ascends_placed x ys up.1))

  pub ascends_onto : (before list : List A) → Ascends clock before → Ascends clock (onto before list)
  ascends_onto before [] up = up
  ascends_onto before (x ∷ xs) up = ascends_onto (placed clock x before) xs (ascends_placed x before up)

  none_at : (k : ℤ) (zs : List A) → AllByRecursion (λ z. k <ℤ clock z) zs → at_clock clock k zs ≡ []
  none_at k [] all = refl
  none_at k (z ∷ zs) all = rw (unequal_test k (clock z) all.0) (none_at k zs all.1)

  first_or_not : (k : ℤ) (x : A) (zs : List A) → AllByRecursion (λ z. clock x <ℤ clock z) zs → at_clock clock k (x ∷ zs) ≡ at_clock clock k zs ++ at_clock clock k (x ∷ [])
  first_or_not k x zs all = by_test (int_eq (clock x) k) refl
    where
      by_test : (t : Bool) → int_eq (clock x) k ≡ t → cond t (x ∷ at_clock clock k zs) (at_clock clock k zs) ≡ at_clock clock k zs ++ cond t (x ∷ []) []
      by_test true e = rw (none_at k zs (all_by (λ z. clock x <ℤ clock z) (λ z. k <ℤ clock z) (λ z l. let same = equal_test (clock x) k e in omega (arith, ints)) zs all)) refl
      by_test false e = rw append-nil refl

  behind_or_not : (t : Bool) (y : A) (ys zs new : List A) → new ≡ ys ++ zs → cond t (y ∷ new) new ≡ cond t (y ∷ ys) ys ++ zs
  behind_or_not true y ys zs new e = ap (λ l. y ∷ l) e
  behind_or_not false y ys zs new e = e

  pub ties_placed : (k : ℤ) (x : A) (ys : List A) → Ascends clock ys → at_clock clock k (placed clock x ys) ≡ at_clock clock k ys ++ at_clock clock k (x ∷ [])
  ties_placed k x [] up = refl
  ties_placed k x (y ∷ ys) up = cond_both (int_lt (clock x) (clock y)) (x ∷ y ∷ ys) (y ∷ placed clock x ys) (λ l. at_clock clock k l ≡ at_clock clock k (y ∷ ys) ++ at_clock clock k (x ∷ []))
      (λ e. let less = less_test (clock x) (clock y) e in
      first_or_not k x (y ∷ ys) (less, all_by (λ z. clock y ≤ℤ clock z) (λ z. clock x <ℤ clock z) (λ z l. omega (arith, ints)) ys up.0))
      (λ e. behind_or_not (int_eq (clock y) k) y (at_clock clock k ys) (at_clock clock k (x ∷ [])) (at_clock clock k (placed clock x ys)) (ties_placed k x ys up.1))

  joined : (x : List A) (t : Bool) (y : A) (ys : List A) → (x ++ cond t (y ∷ []) []) ++ ys ≡ x ++ cond t (y ∷ ys) ys
  joined x true y ys = rw append_assoc refl
  joined x false y ys = rw append-nil refl

  pub ties_onto : (k : ℤ) (before list : List A) → Ascends clock before → at_clock clock k (onto before list) ≡ at_clock clock k before ++ at_clock clock k list
  ties_onto k before [] up = rw append-nil refl
  ties_onto k before (x ∷ xs) up = ties_onto k (placed clock x before) xs (ascends_placed x before up)
      ∙ (ap (λ l. l ++ at_clock clock k xs) (ties_placed k x before up) ∙ joined (at_clock clock k before) (int_eq (clock x) k) x (at_clock clock k xs))

  pub sorted_orders : (list : List A) → IsInOrder clock list (sorted clock list)
  sorted_orders list = record { ascends = ascends_onto [] list tt; ties = λ k. ties_onto k [] list tt }
