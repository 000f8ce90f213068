-- Only one list ascends with the ties as they came.
use Rattle.std.proofs.Common.{◌≡◌, ℤ, ◌≤ℤ◌, Bool, true, false, cond, List, [], ◌∷◌, refl, sym, ap, ap₂, subst, ◌∙◌, arith}
use Rattle.std.specs.List.{AllByRecursion}
use Rattle.std.specs.Ordering.{int_eq}
use Rattle.std.proofs.lemmas.Int.{ints}
use Rattle.reorder_gate.specs.Sorting.{sorted, Ascends, at_clock, IsInOrder}
use Rattle.reorder_gate.proofs.Placing.{equal_test, itself_test, sorted_orders}

pub same_head : {A : Type 0} (x y : A) (xs ys : List A) → x ∷ xs ≡ y ∷ ys → x ≡ y
same_head x y xs ys e = cc

pub same_tail : {A : Type 0} (x y : A) (xs ys : List A) → x ∷ xs ≡ y ∷ ys → xs ≡ ys
same_tail x y xs ys e = cc

pub no_item : {A : Type 0} (x : A) (xs : List A) → [] ≡ x ∷ xs → ⊥
no_item x xs e = cc

module _ {A : Type 0} (clock : A → ℤ) where
  -- an item of this clock is none below the least
  not_below : (k least : ℤ) (zs : List A) (x : A) (xs : List A) → at_clock clock k zs ≡ x ∷ xs → AllByRecursion (λ z. least ≤ℤ clock z) zs → least ≤ℤ k
  not_below k least [] x xs e all = absurd (no_item x xs e)
  not_below k least (z ∷ zs) x xs e all = by_test (int_eq (clock z) k) refl e (λ f. not_below k least zs x xs f all.1)
    where
      by_test : (t : Bool) → int_eq (clock z) k ≡ t → cond t (z ∷ at_clock clock k zs) (at_clock clock k zs) ≡ x ∷ xs → (at_clock clock k zs ≡ x ∷ xs → least ≤ℤ k) → least ≤ℤ k
      by_test true same f rest = subst (λ m. least ≤ℤ m) (equal_test (clock z) k same) all.0
      by_test false other f rest = rest f

  at_its_own : (x : A) (xs : List A) → at_clock clock (clock x) (x ∷ xs) ≡ x ∷ at_clock clock (clock x) xs
  at_its_own x xs = ap (λ t. cond t (x ∷ at_clock clock (clock x) xs) (at_clock clock (clock x) xs)) (itself_test (clock x))

  least_of_all : (x : A) (xs : List A) → AllByRecursion (λ y. clock x ≤ℤ clock y) xs → AllByRecursion (λ y. clock x ≤ℤ clock y) (x ∷ xs)
  least_of_all x xs all = (omega (arith, ints), all)

  rest_at : (t : Bool) (x : A) (xs ys : List A) → cond t (x ∷ xs) xs ≡ cond t (x ∷ ys) ys → xs ≡ ys
  rest_at true x xs ys e = same_tail x x xs ys e
  rest_at false x xs ys e = e

  pub one_order : (xs ys : List A) → Ascends clock xs → Ascends clock ys → ((k : ℤ) → at_clock clock k xs ≡ at_clock clock k ys) → xs ≡ ys
  one_order [] [] up on ties = refl
  one_order [] (y ∷ ys) up on ties = absurd (no_item y _ (ties (clock y) ∙ at_its_own y ys))
  one_order (x ∷ xs) [] up on ties = absurd (no_item x _ (sym (ties (clock x)) ∙ at_its_own x xs))
  one_order (x ∷ xs) (y ∷ ys) up on ties =
      let y_first : clock y ≤ℤ clock x = not_below (clock x) (clock y) (y ∷ ys) x (at_clock clock (clock x) xs) (sym (ties (clock x)) ∙ at_its_own x xs) (least_of_all y ys on.0) in
      let x_first : clock x ≤ℤ clock y = not_below (clock y) (clock x) (x ∷ xs) y (at_clock clock (clock y) ys) (ties (clock y) ∙ at_its_own y ys) (least_of_all x xs up.0) in
      let level : clock x ≡ clock y = omega (arith, ints) in
      let one : x ≡ y = same_head x y (at_clock clock (clock x) xs) (at_clock clock (clock y) ys) (sym (at_its_own x xs) ∙ (ties (clock x) ∙ (ap (λ k. at_clock clock k (y ∷ ys)) level ∙ at_its_own y ys))) in
      ap₂ (λ z zs. z ∷ zs) one (one_order xs ys up.1 on.1 (λ k. rest_at (int_eq (clock x) k) x (at_clock clock k xs) (at_clock clock k ys)
      (ties k ∙ ap (λ z. cond (int_eq (clock z) k) (z ∷ at_clock clock k ys) (at_clock clock k ys)) (sym one))))

  pub only_sorted : (came list : List A) → IsInOrder clock came list → list ≡ sorted clock came
  only_sorted came list order = one_order list (sorted clock came) order.ascends (sorted_orders clock came).ascends (λ k. order.ties k ∙ sym ((sorted_orders clock came).ties k))
