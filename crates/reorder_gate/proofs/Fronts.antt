-- What is released stays in front.
use Rattle.std.proofs.Common.{◌≡◌, ℕ, ℤ, pos, ◌-ℤ◌, ◌≤ℤ◌, ◌<ℤ◌, Bool, true, false, cond, List, [], ◌∷◌, ◌++◌, refl, sym, ap, ap₂, subst, ◌∙◌, Option, Some, None, arith}
use Rattle.std.specs.Prelude.{int_lt, int_le}
use Rattle.std.specs.List.{AllByRecursion, filter, fold}
use Rattle.std.proofs.lemmas.Bool.{cond_both}
use Rattle.std.proofs.lemmas.Int.{ints}
use Rattle.std.proofs.lemmas.List.Sums.{fold-append}
use Rattle.reorder_gate.specs.Sorting.{placed, sorted}
use Rattle.reorder_gate.specs.Releasing.{raised, is_late, is_due, greatest, IsInTimeAfter, IsInTime, released, BeginsWith}
use Rattle.reorder_gate.proofs.Placing.{onto, all_by, all_placed, all_onto, less_test, not_less_test, test_less, test_not_less}
use Rattle.reorder_gate.proofs.OnlyOne.{same_head, same_tail, no_item}

pub upto_test : (a b : ℤ) → int_le a b ≡ true → a ≤ℤ b
upto_test a b e = grind (arith, ints)

pub not_upto_test : (a b : ℤ) → int_le a b ≡ false → b <ℤ a
not_upto_test a b e = grind (arith, ints)

pub test_upto : (a b : ℤ) → a ≤ℤ b → int_le a b ≡ true
test_upto a b l = grind (arith, ints)

pub test_not_upto : (a b : ℤ) → b <ℤ a → int_le a b ≡ false
test_not_upto a b l = grind (arith, ints)

pub not_under : (high : Option ℤ) (now : ℤ) → now ≤ℤ raised high now
not_under None now = omega (arith, ints)
not_under (Some high) now = cond_both (int_lt now high) high now (λ h. now ≤ℤ h) (λ e. let l = less_test now high e in omega (arith, ints)) (λ e. omega (arith, ints))

pub keeps_high : (high now : ℤ) → high ≤ℤ raised (Some high) now
keeps_high high now = cond_both (int_lt now high) high now (λ h. high ≤ℤ h) (λ e. omega (arith, ints)) (λ e. let l = not_less_test now high e in omega (arith, ints))

module _ {A : Type 0} (clock : A → ℤ) where
  pub placed_behind : (x : A) (xs ys : List A) → AllByRecursion (λ z. clock z ≤ℤ clock x) xs → placed clock x (xs ++ ys) ≡ xs ++ placed clock x ys
  placed_behind x [] ys all = refl
  placed_behind x (z ∷ zs) ys all = rw (test_not_less (clock x) (clock z) all.0) (ap (λ l. z ∷ l) (placed_behind x zs ys all.1))

  placed_first : (x : A) (ys : List A) → AllByRecursion (λ z. clock x <ℤ clock z) ys → placed clock x ys ≡ x ∷ ys
  placed_first x [] all = refl
  placed_first x (y ∷ ys) all = rw (test_less (clock x) (clock y) all.0) refl

  in_front : (t : Bool) (x z : A) (zs new ys all : List A) → all ≡ new ++ ys → cond t (x ∷ z ∷ (zs ++ ys)) (z ∷ all) ≡ cond t (x ∷ z ∷ zs) (z ∷ new) ++ ys
  in_front true x z zs new ys all e = refl
  in_front false x z zs new ys all e = ap (λ l. z ∷ l) e

  placed_before : (x : A) (xs ys : List A) → AllByRecursion (λ z. clock x <ℤ clock z) ys → placed clock x (xs ++ ys) ≡ placed clock x xs ++ ys
  placed_before x [] ys all = placed_first x ys all
  placed_before x (z ∷ zs) ys all = in_front (int_lt (clock x) (clock z)) x z zs (placed clock x zs) ys (placed clock x (zs ++ ys)) (placed_before x zs ys all)

  pub onto_behind : (b : ℤ) (xs ys list : List A) → AllByRecursion (λ z. clock z ≤ℤ b) xs → AllByRecursion (λ z. b ≤ℤ clock z) list → onto clock (xs ++ ys) list ≡ xs ++ onto clock ys list
  onto_behind b xs ys [] low high = refl
  onto_behind b xs ys (x ∷ list) low high = ap (λ l. onto clock l list) (placed_behind x xs ys (all_by (λ z. clock z ≤ℤ b) (λ z. clock z ≤ℤ clock x) (λ z l. omega (arith, ints)) xs low))
      ∙ onto_behind b xs (placed clock x ys) list low high.1

  abbrev pub upto : ℤ → List A → List A
  upto b list = filter (λ x. int_le (clock x) b) list

  abbrev pub over : ℤ → List A → List A
  over b list = filter (λ x. int_lt b (clock x)) list

  pub all_upto : (b : ℤ) (list : List A) → AllByRecursion (λ z. clock z ≤ℤ b) (upto b list)
  all_upto b [] = tt
  all_upto b (x ∷ list) = cond_both (int_le (clock x) b) (x ∷ upto b list) (upto b list) (AllByRecursion (λ z. clock z ≤ℤ b)) (λ e. (upto_test (clock x) b e, all_upto b list)) (λ _. all_upto b list)

  pub all_over : (b : ℤ) (list : List A) → AllByRecursion (λ z. b <ℤ clock z) (over b list)
  all_over b [] = tt
  all_over b (x ∷ list) = cond_both (int_lt b (clock x)) (x ∷ over b list) (over b list) (AllByRecursion (λ z. b <ℤ clock z)) (λ e. (less_test b (clock x) e, all_over b list)) (λ _. all_over b list)

  -- sorting splits at a bound
  pub splits : (b : ℤ) (low high list : List A) → AllByRecursion (λ z. clock z ≤ℤ b) low → AllByRecursion (λ z. b <ℤ clock z) high → onto clock (low ++ high) list ≡ onto clock low (upto b list) ++ onto clock high (over b list)
  splits b low high [] l h = refl
  splits b low high (x ∷ list) l h = by_test (int_le (clock x) b) refl (λ low high l h. splits b low high list l h)
    where
      by_test : (t : Bool) → int_le (clock x) b ≡ t → ((low high : List A) → AllByRecursion (λ z. clock z ≤ℤ b) low → AllByRecursion (λ z. b <ℤ clock z) high → onto clock (low ++ high) list ≡ onto clock low (upto b list) ++ onto clock high (over b list)) → onto clock (placed clock x (low ++ high)) list ≡ onto clock low (cond t (x ∷ upto b list) (upto b list)) ++ onto clock high (over b (x ∷ list))
      by_test true e rest =
          let upto_b : clock x ≤ℤ b = upto_test (clock x) b e in
          rw (test_not_less b (clock x) upto_b) (ap (λ l. onto clock l list) (placed_before x low high (all_by (λ z. b <ℤ clock z) (λ z. clock x <ℤ clock z) (λ z m. omega (arith, ints)) high h))
          ∙ rest (placed clock x low) high (all_placed clock (λ z. clock z ≤ℤ b) x low upto_b l) h)
      by_test false e rest =
          let over_b : b <ℤ clock x = not_upto_test (clock x) b e in
          rw (test_less b (clock x) over_b) (ap (λ l. onto clock l list) (placed_behind x low high (all_by (λ z. clock z ≤ℤ b) (λ z. clock z ≤ℤ clock x) (λ z m. omega (arith, ints)) low l))
          ∙ rest low (placed clock x high) l (all_placed clock (λ z. b <ℤ clock z) x high over_b h))

  -- a bound cuts an ascending list in one way
  pub one_cut : (b : ℤ) (xs ys us vs : List A) → xs ++ ys ≡ us ++ vs → AllByRecursion (λ z. clock z ≤ℤ b) xs → AllByRecursion (λ z. b <ℤ clock z) ys → AllByRecursion (λ z. clock z ≤ℤ b) us → AllByRecursion (λ z. b <ℤ clock z) vs → xs ≡ us
  one_cut b [] ys [] vs e lx hy lu hv = refl
  one_cut b [] [] (u ∷ us) vs e lx hy lu hv = absurd (no_item u (us ++ vs) e)
  one_cut b [] (y ∷ ys) (u ∷ us) vs e lx hy lu hv =
      let one = same_head y u ys (us ++ vs) e in
      let high : b <ℤ clock u = subst (λ z. b <ℤ clock z) one hy.0 in
      let low : clock u ≤ℤ b = lu.0 in
      absurd (omega (arith, ints))
  one_cut b (x ∷ xs) ys [] [] e lx hy lu hv = absurd (no_item x (xs ++ ys) (sym e))
  one_cut b (x ∷ xs) ys [] (v ∷ vs) e lx hy lu hv =
      let one = same_head x v (xs ++ ys) vs e in
      let low : clock v ≤ℤ b = subst (λ z. clock z ≤ℤ b) one lx.0 in
      let high : b <ℤ clock v = hv.0 in
      absurd (omega (arith, ints))
  one_cut b (x ∷ xs) ys (u ∷ us) vs e lx hy lu hv =
      ap₂ (λ z zs. z ∷ zs) (same_head x u (xs ++ ys) (us ++ vs) e) (one_cut b xs ys us vs (same_tail x u (xs ++ ys) (us ++ vs) e) lx.1 hy lu.1 hv)

  -- what is below a bound stands in front
  pub in_the_front : (b : ℤ) (xs ys us vs : List A) → xs ++ ys ≡ us ++ vs → AllByRecursion (λ z. clock z ≤ℤ b) xs → AllByRecursion (λ z. b <ℤ clock z) vs → BeginsWith xs us
  in_the_front b [] ys us vs e lx hv = (us, refl)
  in_the_front b (x ∷ xs) ys [] [] e lx hv = absurd (no_item x (xs ++ ys) (sym e))
  in_the_front b (x ∷ xs) ys [] (v ∷ vs) e lx hv =
      let one = same_head x v (xs ++ ys) vs e in
      let low : clock v ≤ℤ b = subst (λ z. clock z ≤ℤ b) one lx.0 in
      let high : b <ℤ clock v = hv.0 in
      absurd (omega (arith, ints))
  in_the_front b (x ∷ xs) ys (u ∷ us) vs e lx hv =
      let rest = in_the_front b xs ys us vs (same_tail x u (xs ++ ys) (us ++ vs) e) lx.1 hv in
      (rest.0, ap₂ (λ z zs. z ∷ zs) (sym (same_head x u (xs ++ ys) (us ++ vs) e)) rest.1)

  abbrev pub highest : Option ℤ → List A → Option ℤ
  highest high list = fold (λ high x. Some (raised high (clock x))) high list

  pub front_in_time : (late : ℕ) (high : Option ℤ) (list more : List A) → IsInTimeAfter clock late high (list ++ more) → IsInTimeAfter clock late high list
  front_in_time late high [] more t = tt
  front_in_time late high (x ∷ list) more t = (t.0, front_in_time late (Some (raised high (clock x))) list more t.1)

  pub rest_in_time : (late : ℕ) (high : Option ℤ) (list more : List A) → IsInTimeAfter clock late high (list ++ more) → IsInTimeAfter clock late (highest high list) more
  rest_in_time late high [] more t = t
  rest_in_time late high (x ∷ list) more t = rest_in_time late (Some (raised high (clock x))) list more t.1

  pub one_more_in_time : (late : ℕ) (high : Option ℤ) (list : List A) (x : A) → IsInTimeAfter clock late high list → is_late late (highest high list) (clock x) ≡ false → IsInTimeAfter clock late high (list ++ x ∷ [])
  one_more_in_time late high [] x t e = (e, tt)
  one_more_in_time late high (y ∷ list) x t e = (t.0, one_more_in_time late (Some (raised high (clock y))) list x t.1 e)

  over_bound : (late : ℕ) (high now : ℤ) (list : List A) → high ≤ℤ now → IsInTimeAfter clock late (Some now) list → AllByRecursion (λ z. (high -ℤ pos late) ≤ℤ clock z) list
  over_bound late high now [] l t = tt
  over_bound late high now (x ∷ list) l t =
      let in_time = not_less_test (clock x) (now -ℤ pos late) t.0 in
      let more = keeps_high now (clock x) in
      (omega (arith, ints), over_bound late high (raised (Some now) (clock x)) list (omega (arith, ints)) t.1)

  pub some_highest : (high : ℤ) (list : List A) → (top : ℤ) × (high ≤ℤ top) × (highest (Some high) list ≡ Some top)
  some_highest high [] = (high, omega (arith, ints), refl)
  some_highest high (x ∷ list) =
      let rest = some_highest (raised (Some high) (clock x)) list in
      let more = keeps_high high (clock x) in
      let less = rest.1 in
      (rest.0, omega (arith, ints), rest.2)

  -- what is released below a bound
  pub released_at : (late : ℕ) (top : ℤ) (list : List A) → greatest clock list ≡ Some top → released clock late list ≡ onto clock [] (upto (top -ℤ pos late) list)
  released_at late top list e = ap (λ h. sorted clock (filter (λ x. is_due late h (clock x)) list)) e

  pub sorted_splits : (late : ℕ) (top : ℤ) (list : List A) → greatest clock list ≡ Some top → sorted clock list ≡ released clock late list ++ onto clock [] (over (top -ℤ pos late) list)
  sorted_splits late top list e = splits (top -ℤ pos late) [] [] list tt tt ∙ ap (λ l. l ++ onto clock [] (over (top -ℤ pos late) list)) (sym (released_at late top list e))

  pub all_released : (late : ℕ) (top : ℤ) (list : List A) → greatest clock list ≡ Some top → AllByRecursion (λ z. clock z ≤ℤ (top -ℤ pos late)) (released clock late list)
  all_released late top list e = subst (AllByRecursion (λ z. clock z ≤ℤ (top -ℤ pos late))) (sym (released_at late top list e)) (all_onto clock (λ z. clock z ≤ℤ (top -ℤ pos late)) [] (upto (top -ℤ pos late) list) tt (all_upto (top -ℤ pos late) list))

  pub all_kept : (late : ℕ) (top : ℤ) (list : List A) → AllByRecursion (λ z. (top -ℤ pos late) <ℤ clock z) (onto clock [] (over (top -ℤ pos late) list))
  all_kept late top list = all_onto clock (λ z. (top -ℤ pos late) <ℤ clock z) [] (over (top -ℤ pos late) list) tt (all_over (top -ℤ pos late) list)

  -- what stands in front below the bound stays there, whatever comes in time
  pub front_stays : (late : ℕ) (top : ℤ) (list more front rest : List A) → greatest clock list ≡ Some top → front ++ rest ≡ sorted clock list → AllByRecursion (λ z. clock z ≤ℤ (top -ℤ pos late)) front → IsInTime clock late (list ++ more)
      → BeginsWith front (sorted clock (list ++ more))
  front_stays late top list more front rest is cut low t =
      let high = over_bound late top top more (omega (arith, ints)) (subst (λ h. IsInTimeAfter clock late h more) is (rest_in_time late None list more t)) in
      (onto clock rest more, fold-append (λ before x. placed clock x before) [] list more ∙ (ap (λ l. onto clock l more) (sym cut) ∙ onto_behind (top -ℤ pos late) front rest more low high))

  pub front_is_released : (late : ℕ) (top : ℤ) (list more front rest : List A) → greatest clock list ≡ Some top → front ++ rest ≡ sorted clock list → AllByRecursion (λ z. clock z ≤ℤ (top -ℤ pos late)) front → IsInTime clock late (list ++ more)
      → BeginsWith front (released clock late (list ++ more))
  front_is_released late top list more front rest is cut low t =
      let new = some_highest top more in
      let higher : top ≤ℤ new.0 = new.1 in
      let at_last : greatest clock (list ++ more) ≡ Some new.0 = fold-append (λ high y. Some (raised high (clock y))) None list more ∙ (ap (λ h. highest h more) is ∙ new.2) in
      let first = front_stays late top list more front rest is cut low t in
      in_the_front (new.0 -ℤ pos late) front first.0 (released clock late (list ++ more)) (onto clock [] (over (new.0 -ℤ pos late) (list ++ more)))
      (sym first.1 ∙ sorted_splits late new.0 (list ++ more) at_last)
      (all_by (λ z. clock z ≤ℤ (top -ℤ pos late)) (λ z. clock z ≤ℤ (new.0 -ℤ pos late)) (λ z l. omega (arith, ints)) front low)
      (all_kept late new.0 (list ++ more))

  pub final : (late : ℕ) (list more : List A) → IsInTime clock late (list ++ more) → BeginsWith (released clock late list) (sorted clock (list ++ more))
  final late [] more t = (sorted clock more, refl)
  final late (x ∷ list) more t =
      let top = some_highest (clock x) list in
      front_stays late top.0 (x ∷ list) more (released clock late (x ∷ list)) (onto clock [] (over (top.0 -ℤ pos late) (x ∷ list))) top.2 (sym (sorted_splits late top.0 (x ∷ list) top.2)) (all_released late top.0 (x ∷ list) top.2) t

  pub grows : (late : ℕ) (list more : List A) → IsInTime clock late (list ++ more) → BeginsWith (released clock late list) (released clock late (list ++ more))
  grows late [] more t = (released clock late more, refl)
  grows late (x ∷ list) more t =
      let top = some_highest (clock x) list in
      front_is_released late top.0 (x ∷ list) more (released clock late (x ∷ list)) (onto clock [] (over (top.0 -ℤ pos late) (x ∷ list))) top.2 (sym (sorted_splits late top.0 (x ∷ list) top.2)) (all_released late top.0 (x ∷ list) top.2) t

  pub in_time_ends : (late : ℕ) (list : List A) (x : A) → IsInTime clock late (list ++ x ∷ []) → IsInTime clock late list × (is_late late (greatest clock list) (clock x) ≡ false)
  in_time_ends late list x t = (front_in_time late None list (x ∷ []) t, (rest_in_time late None list (x ∷ []) t).0)
