-- Answers put into order, as lists.
use Rattle.std.proofs.Common.{Ordering, ◌≡◌, ℕ, ◌<◌, length, Some, zero, suc, ◌⊎◌, inl, inr, Bool, true, false, List, [], ◌∷◌, get_or, IsPermutation, Contains, refl, sym, subst, arith}
use Rattle.std.specs.Prelude.{if◌then◌else◌, slice_get}
use Rattle.std.specs.declared.cmp.Ordering.TheVariants.{Less, Equal, Greater}
use Rattle.std.specs.Ordering.{is_lt}
use Rattle.std.proofs.lemmas.List.Sorted.{IsPermutation-refl, IsPermutation-cons, IsPermutation-trans, IsPermutation-middle, IsPermutation-sym, Contains-permutation}
use Rattle.std.proofs.lemmas.Option.{slice_get_within, get_or_from_slice_get}
use Rattle.cel_terms.specs.Answers.{Answer}
use Rattle.cer_base.specs.Repeats.{HasNoRepeats}
use Rattle.answer_text.specs.Output.{ComesBefore, EachBeforeNext}
use Rattle.answer_text.proofs.Ordered.{compared, is_less, is_equal, is_greater, before_chain}

-- with the one where the test says so, and else with the others
abbrev put_if : Bool → Answer → List Answer → List Answer → List Answer
put_if b a xs others = if b then a ∷ xs else others

abbrev pub put : Answer → List Answer → List Answer
put a [] = a ∷ []
put a (x ∷ xs) = put_if (is_lt (compared a x)) a (x ∷ xs) (x ∷ put a xs)

abbrev pub in_order : List Answer → List Answer
in_order [] = []
in_order (x ∷ xs) = put x (in_order xs)

-- each comes before all after it
abbrev pub Rise : List Answer → Type 0
Rise [] = Unit {0}
Rise (x ∷ xs) = ((y : Answer) → Contains xs y → ComesBefore x y) × Rise xs

put_moves_step : (b : Bool) (a x : Answer) (xs others : List Answer) → IsPermutation (a ∷ xs) others → IsPermutation (a ∷ x ∷ xs) (put_if b a (x ∷ xs) (x ∷ others))
put_moves_step true a x xs others h = IsPermutation-refl (a ∷ x ∷ xs)
put_moves_step false a x xs others h =
    IsPermutation-trans (a ∷ x ∷ xs) (x ∷ a ∷ xs) (x ∷ others) (IsPermutation-middle (a ∷ []) x xs) (IsPermutation-cons x (a ∷ xs) others h)

put_moves : (a : Answer) (xs : List Answer) → IsPermutation (a ∷ xs) (put a xs)
put_moves a [] = IsPermutation-refl (a ∷ [])
put_moves a (x ∷ xs) = put_moves_step (is_lt (compared a x)) a x xs (put a xs) (put_moves a xs)

-- The same answers, in order.
pub in_order_moves : (xs : List Answer) → IsPermutation xs (in_order xs)
in_order_moves [] = IsPermutation-refl []
in_order_moves (x ∷ xs) =
    IsPermutation-trans (x ∷ xs) (x ∷ in_order xs) (put x (in_order xs)) (IsPermutation-cons x xs (in_order xs) (in_order_moves xs)) (put_moves x (in_order xs))

-- what is in a list is its first or after it
first_or_behind : (x y : Answer) (xs : List Answer) → Contains (x ∷ xs) y → (x ≡ y) ⊎ Contains xs y
first_or_behind x y xs (zero, within, at) = inl at
first_or_behind x y xs (suc k, within, at) = inr (k, omega arith, at)

before_all : (a x : Answer) (xs : List Answer) → ComesBefore a x → ((y : Answer) → Contains xs y → ComesBefore x y) → (y : Answer) → Contains (x ∷ xs) y → ComesBefore a y
before_all a x xs h later y c =
    elim (first_or_behind x y xs c) [ inl e ↦ subst (ComesBefore a) e h | inr r ↦ before_chain a x y h (later y r) ]

behind_both : (a x : Answer) (xs others : List Answer) → IsPermutation (a ∷ xs) others → ComesBefore x a → ((y : Answer) → Contains xs y → ComesBefore x y) →
    (y : Answer) → Contains others y → ComesBefore x y
behind_both a x xs others moved h later y c =
    elim (first_or_behind a y xs (Contains-permutation others (a ∷ xs) y (IsPermutation-sym (a ∷ xs) others moved) c)) [
      | inl e ↦ subst (ComesBefore x) e h
      | inr r ↦ later y r
    ]

put_rises_step : (o : Ordering) (a x : Answer) (xs others : List Answer) → o ≡ compared a x → IsPermutation (a ∷ xs) others →
    (Contains (x ∷ xs) a → ⊥) → Rise (x ∷ xs) → Rise others → Rise (put_if (is_lt o) a (x ∷ xs) (x ∷ others))
put_rises_step Less a x xs others e moved apart h rest = (before_all a x xs ((is_less a x Less e).0 refl) h.0, h)
put_rises_step Equal a x xs others e moved apart h rest = absurd (apart (0, omega arith, sym ((is_equal a x Equal e).0 refl)))
put_rises_step Greater a x xs others e moved apart h rest = (behind_both a x xs others moved ((is_greater a x Greater e).0 refl) h.0, rest)

put_rises : (a : Answer) (xs : List Answer) → (Contains xs a → ⊥) → Rise xs → Rise (put a xs)
put_rises a [] apart h = (λ y c. absurd (let inside = c.1 in omega arith), tt)
put_rises a (x ∷ xs) apart h =
    put_rises_step (compared a x) a x xs (put a xs) refl (put_moves a xs) apart h
    (put_rises a xs (λ c. apart (suc c.0, (let inside = c.1 in omega arith), c.2)) h.1)

in_order_rises : (xs : List Answer) → HasNoRepeats xs → Rise (in_order xs)
in_order_rises [] h = tt
in_order_rises (x ∷ xs) h =
    put_rises x (in_order xs) (λ c. h.0 (Contains-permutation (in_order xs) xs x (IsPermutation-sym xs (in_order xs) (in_order_moves xs)) c)) (in_order_rises xs h.1)

before_next : (xs : List Answer) → Rise xs → EachBeforeNext xs
before_next [] h i j a b less p q = absurd (cc)
before_next (x ∷ xs) h i zero a b less p q = absurd (omega arith)
before_next (x ∷ xs) h zero (suc j) a b less p q =
    let first : x ≡ a = cc in
    subst (λ (y : Answer). ComesBefore y b) first (h.0 b (j, slice_get_within xs j b q, get_or_from_slice_get xs j b b q))
before_next (x ∷ xs) h (suc i) (suc j) a b less p q = before_next xs h.1 i j a b (omega arith) p q

-- They are in order.
pub in_order_is : (xs : List Answer) → HasNoRepeats xs → EachBeforeNext (in_order xs)
in_order_is xs h = before_next (in_order xs) (in_order_rises xs h)
