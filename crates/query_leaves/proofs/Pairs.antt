-- Lists whose elements are related one by one.
use Rattle.std.proofs.Common.{◌≡◌, refl, sym, ap, subst, ◌∙◌, ℕ, suc, ◌+◌, ◌-◌, ◌<◌, ◌≤◌, List, [], ◌∷◌, ◌++◌, length, take, drop, get_or, map, arith}
use Rattle.std.specs.Prelude.{reverse}
use Rattle.std.proofs.Math.Seq.{drop-cons}
use Rattle.std.specs.List.{AllZip}
use Rattle.std.proofs.lemmas.List.{take_more, take_all, map-append}
use Rattle.query_leaves.proofs.Changes.{first_last}

pub zip_append : {A B : Type 0} (R : A → B → Type 0) (xs zs : List A) (ys ws : List B) → AllZip R xs ys → AllZip R zs ws → AllZip R (xs ++ zs) (ys ++ ws)
zip_append R [] zs [] ws h k = k
zip_append R [] zs (y ∷ ys) ws h k = absurd h
zip_append R (x ∷ xs) zs [] ws h k = absurd h
zip_append R (x ∷ xs) zs (y ∷ ys) ws h k = (h.0, zip_append R xs zs ys ws h.1 k)

-- what holds of two holds of what they equal
pub of_equals : {A B : Type 0} (R : A → B → Type 0) (x z : A) (y w : B) → x ≡ z → y ≡ w → R x y → R z w
of_equals R x z y w one other r = subst (λ v. R v w) one (subst (R x) other r)

-- one more of the one list and of the other
pub one_more : {A B : Type 0} (R : A → B → Type 0) (xs : List A) (i : ℕ) (d : A) (ys : List B) (y : B) → i < length xs → AllZip R (take i xs) ys → R (get_or xs i d) y → AllZip R (take (i + 1) xs) (ys ++ y ∷ [])
one_more R xs i d ys y less h r = subst (λ zs. AllZip R zs (ys ++ y ∷ [])) (sym (take_more xs i d less)) (zip_append R (take i xs) (get_or xs i d ∷ []) ys (y ∷ []) h (r, tt))

pub one_more_each : {A B : Type 0} (R : A → B → Type 0) (xs : List A) (ys : List B) (i : ℕ) (d : A) (e : B) → i < length xs → i < length ys → AllZip R (take i xs) (take i ys) → R (get_or xs i d) (get_or ys i e) → AllZip R (take (i + 1) xs) (take (i + 1) ys)
one_more_each R xs ys i d e less below h r = subst (AllZip R (take (i + 1) xs)) (sym (take_more ys i e below)) (one_more R xs i d (take i ys) (get_or ys i e) less h r)

pub one_more_of : {A B C : Type 0} (f : A → C) (R : C → B → Type 0) (xs : List A) (i : ℕ) (d : A) (ys : List B) (y : B) → i < length xs → AllZip R (map f (take i xs)) ys → R (f (get_or xs i d)) y → AllZip R (map f (take (i + 1) xs)) (ys ++ y ∷ [])
one_more_of f R xs i d ys y less h r = subst (λ zs. AllZip R zs (ys ++ y ∷ [])) (sym (ap (map f) (take_more xs i d less) ∙ map-append f (take i xs) (get_or xs i d ∷ []))) (zip_append R (map f (take i xs)) (f (get_or xs i d) ∷ []) ys (y ∷ []) h (r, tt))

-- one more of a list that is taken from its end
pub one_more_from : {A B C : Type 0} (f : A → C) (R : C → B → Type 0) (xs : List A) (k : ℕ) (d : A) (ys : List B) (y : B) → 0 < k → k ≤ length xs → AllZip R (map f (reverse (drop k xs))) ys → R (f (get_or xs (k - 1) d)) y → AllZip R (map f (reverse (drop (k - 1) xs))) (ys ++ y ∷ [])
one_more_from f R xs k d ys y some within h r =
    let at : suc (k - 1) ≡ k = omega arith in
    let front : drop (k - 1) xs ≡ get_or xs (k - 1) d ∷ drop k xs =
    drop-cons xs (k - 1) d (omega arith) ∙ ap (λ n. get_or xs (k - 1) d ∷ drop n xs) at in
    subst (λ zs. AllZip R zs (ys ++ y ∷ []))
    (sym (ap (λ l. map f (reverse l)) front ∙ first_last f (get_or xs (k - 1) d) (drop k xs)))
    (zip_append R (map f (reverse (drop k xs))) (f (get_or xs (k - 1) d) ∷ []) ys (y ∷ []) h (r, tt))

-- two lists that are compared from the end of the one and the beginning of the other: at first nothing is
nothing_left : {A : Type 0} (xs : List A) → drop (length xs) xs ≡ []
nothing_left [] = refl
nothing_left (x ∷ xs) = nothing_left xs

pub none_from : {A B C : Type 0} (f : A → C) (R : C → B → Type 0) (xs : List A) (ys : List B) → AllZip R (map f (reverse (drop (length xs) xs))) (take (length xs - length xs) ys)
none_from f R xs ys =
    let none : length xs - length xs ≡ 0 = omega arith in
    subst (λ zs. AllZip R (map f (reverse zs)) (take (length xs - length xs) ys)) (sym (nothing_left xs)) (subst (λ n. AllZip R [] (take n ys)) (sym none) tt)

-- then one more of each
pub one_more_each_from : {A B C : Type 0} (f : A → C) (R : C → B → Type 0) (xs : List A) (ys : List B) (k : ℕ) (d : A) (e : B) → length xs ≡ length ys → 0 < k → k ≤ length xs → AllZip R (map f (reverse (drop k xs))) (take (length xs - k) ys) → R (f (get_or xs (k - 1) d)) (get_or ys (length ys - 1 - (k - 1)) e) → AllZip R (map f (reverse (drop (k - 1) xs))) (take (length xs - (k - 1)) ys)
one_more_each_from f R xs ys k d e same some within h r =
    let at : length ys - 1 - (k - 1) ≡ length xs - k = omega arith in
    let on : length xs - (k - 1) ≡ (length xs - k) + 1 = omega arith in
    subst (AllZip R (map f (reverse (drop (k - 1) xs)))) (sym (ap (λ n. take n ys) on ∙ take_more ys (length xs - k) e (omega arith)))
    (one_more_from f R xs k d (take (length xs - k) ys) (get_or ys (length xs - k) e) some within h
    (subst (λ n. R (f (get_or xs (k - 1) d)) (get_or ys n e)) at r))

-- and in the end all
pub all_from : {A B C : Type 0} (f : A → C) (R : C → B → Type 0) (xs : List A) (ys : List B) (k : ℕ) → length xs ≡ length ys → k ≤ 0 → AllZip R (map f (reverse (drop k xs))) (take (length xs - k) ys) → AllZip R (map f (reverse xs)) ys
all_from f R xs ys k same none h =
    let zero_is : k ≡ 0 = omega arith in
    subst (AllZip R (map f (reverse xs))) (take_all (length xs - 0) ys (omega arith))
    (subst (λ n. AllZip R (map f (reverse (drop n xs))) (take (length xs - n) ys)) zero_is h)

pub all_each : {A B : Type 0} (R : A → B → Type 0) (xs : List A) (ys : List B) (k : ℕ) → length xs ≡ length ys → length xs ≤ k → AllZip R (take k xs) (take k ys) → AllZip R xs ys
all_each R xs ys k same none h = subst (AllZip R xs) (take_all k ys (omega arith)) (subst (λ zs. AllZip R zs (take k ys)) (take_all k xs none) h)
