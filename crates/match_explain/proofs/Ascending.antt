-- Positions that ascend, and which they list.
use Rattle.std.proofs.Common.{◌≡◌, sym, subst, ◌∙◌, ℕ, ◌+◌, ◌-◌, ◌<◌, ◌≤◌, ◌⊎◌, inl, inr, true, false, List, [], ◌∷◌, ◌++◌, length, get_or, take, Contains, arith}
use Rattle.std.specs.Prelude.{Result, Ok, Err, is_ok, MatchResult}
use Rattle.std.specs.Ordering.{nat_cmp}
use Rattle.std.specs.List.{AllZip}
use Rattle.std.specs.List.Sorted.{IsBinarySearchResult, IsStrictlyIncreasing}
use Rattle.std.proofs.lemmas.Bool.{false_from_ne_true, cases_lt, cases_order}
use Rattle.std.proofs.lemmas.List.{take_more, get_or_default}
use Rattle.std.proofs.lemmas.List.Sorted.{searched}
use Rattle.std.proofs.lemmas.Option.{get_or_from_slice_get, slice_get-get_or, slice_get_within}
use Rattle.std.proofs.lemmas.Map.Keys.{sorted_from_strictly_increasing, below_from_sorted}
use Rattle.cel_terms.specs.Answers.{IsAscending}
use Rattle.cea_determinise.specs.Runs.{has_mark}
use Rattle.cea_compile.proofs.Answers.{listed_is}

pub ascending_from : (xs : List ℕ) → IsStrictlyIncreasing xs → IsAscending xs
ascending_from xs up i j x y less p q =
    let within = slice_get_within xs j y q in
    let a = get_or_from_slice_get xs i x 0 p in
    let b = get_or_from_slice_get xs j y 0 q in
    let lt = below_from_sorted xs i j 0 (sorted_from_strictly_increasing xs up) less within in
    omega arith

-- a position that does not rise
pub not_ascending : (xs : List ℕ) (i d e : ℕ) → 0 < i → i < length xs → get_or xs i d ≤ get_or xs (i - 1) e → IsAscending xs → false ≡ true
not_ascending xs i d e some less le up =
    let before : i - 1 < length xs = omega arith in
    let first : i - 1 < i = omega arith in
    let lt = up (i - 1) i (get_or xs (i - 1) e) (get_or xs i d) first (slice_get-get_or xs (i - 1) e before) (slice_get-get_or xs i d less) in
    absurd (omega arith)

pub in_order : (xs : List ℕ) → IsAscending xs → (i j : ℕ) → i ≤ j → j < length xs → get_or xs i 0 ≤ get_or xs j 0
in_order xs up i j le less = go (cases_order i j)
  where
    go : (i ≡ j) ⊎ ((i < j) ⊎ (j < i)) → get_or xs i 0 ≤ get_or xs j 0
    go (inl e) = subst (λ n. get_or xs i 0 ≤ get_or xs n 0) e (omega arith)
    go (inr (inl lt)) = let first : i < length xs = omega arith in let h = up i j (get_or xs i 0) (get_or xs j 0) lt (slice_get-get_or xs i 0 first) (slice_get-get_or xs j 0 less) in omega arith
    go (inr (inr gt)) = absurd (omega arith)

pub search_is : (xs : List ℕ) (x : ℕ) (r : Result ℕ ℕ) → IsBinarySearchResult (λ y. nat_cmp y x) xs r → IsAscending xs → is_ok r ≡ has_mark xs x
search_is xs x r found up = go r (searched xs x r found (in_order xs up))
  where
    none : (k : ℕ) → ((j : ℕ) → j < k → get_or xs j 0 < x) → ((j : ℕ) → k ≤ j → j < length xs → x < get_or xs j 0) → Contains xs x → ⊥
    none k low high h = at (cases_lt h.0 k)
      where
        same : get_or xs h.0 0 ≡ x
        same = get_or_default xs h.0 0 x h.1 ∙ h.2

        at : (h.0 < k) ⊎ (k ≤ h.0) → ⊥
        at (inl less) = let e = same in let l = low h.0 less in omega arith
        at (inr le) = let e = same in let l = high h.0 le h.1 in omega arith

    go : (r : Result ℕ ℕ) → MatchResult r (λ i. (i < length xs) × (get_or xs i 0 ≡ x)) (λ i. (i ≤ length xs) × ((k : ℕ) → k < i → get_or xs k 0 < x) × ((k : ℕ) → i ≤ k → k < length xs → x < get_or xs k 0)) → is_ok r ≡ has_mark xs x
    go (Ok i) h = sym ((listed_is xs x).1 (i, h.0, get_or_default xs i x 0 h.0 ∙ h.1))
    go (Err i) h = sym (false_from_ne_true (has_mark xs x) (λ l. none i h.1 h.2 ((listed_is xs x).0 l)))

pub zip_push : {A B : Type 0} (R : A → B → Type 0) (xs : List A) (ys : List B) (x : A) (y : B) → AllZip R xs ys → R x y → AllZip R (xs ++ x ∷ []) (ys ++ y ∷ [])
zip_push R [] [] x y h r = (r, tt)
zip_push R [] (b ∷ bs) x y h r = absurd h
zip_push R (a ∷ rest) [] x y h r = absurd h
zip_push R (a ∷ rest) (b ∷ bs) x y h r = (h.0, zip_push R rest bs x y h.1 r)

pub zip_more : {A B : Type 0} (R : A → B → Type 0) (xs : List A) (i : ℕ) (d : A) (ys : List B) (y : B) → i < length xs → AllZip R (take i xs) ys → R (get_or xs i d) y → AllZip R (take (i + 1) xs) (ys ++ y ∷ [])
zip_more R xs i d ys y less h r = subst (λ front. AllZip R front (ys ++ y ∷ [])) (sym (take_more xs i d less)) (zip_push R (take i xs) ys (get_or xs i d) y h r)
