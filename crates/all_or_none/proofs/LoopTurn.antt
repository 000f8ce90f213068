-- One turn of a loop that writes each element of a list in its place.
use Rattle.std.proofs.Common.{◌≡◌, ℕ, zero, suc, ◌+◌, ◌<◌, List, [], ◌∷◌, map, take, drop, length, refl, sym, ap, subst, ◌∙◌, Some, slice_get, All, slice_index_or, slice_set, arith, add-one}
use Rattle.std.specs.List.{AllZip}
use Rattle.std.specs.Prelude.{◌≤◌, sum_by}
use Rattle.std.proofs.lemmas.List.Sums.{sum_by-cons, sum_by-take-le}
use Rattle.std.proofs.lemmas.List.Elements.{All-nil, All-cons, All-head, All-tail}

-- the element that comes next is that of the list at first
pub all_here : {A : Type 0} (P : A → Type 0) (xs ys : List A) (k : ℕ) (d : A) → k < length xs → length xs ≡ length ys → drop k xs ≡ drop k ys → All P ys → P (slice_index_or xs k d)
all_here P [] ys k d l e left h = absurd (omega arith)
all_here P (x ∷ xs) [] k d l e left h = absurd (omega arith)
all_here P (x ∷ xs) (y ∷ ys) zero d l e left h = let same : x ≡ y = cc in subst P (sym same) (All-head P y ys h)
all_here P (x ∷ xs) (y ∷ ys) (suc k) d l e left h = all_here P xs ys k d (omega arith) (omega arith) left (All-tail P y ys h)

-- and what is said of it by its place
pub said_here : {A : Type 0} (P : ℕ → A → Type 0) (xs ys : List A) (k : ℕ) (d : A) → k < length xs → length xs ≡ length ys → drop k xs ≡ drop k ys → ((j : ℕ) (y : A) → slice_get ys j ≡ Some y → P j y) → P k (slice_index_or xs k d)
said_here P [] ys k d l e left h = absurd (omega arith)
said_here P (x ∷ xs) [] k d l e left h = absurd (omega arith)
said_here P (x ∷ xs) (y ∷ ys) zero d l e left h = let same : x ≡ y = cc in subst (P 0) (sym same) (h 0 y refl)
said_here P (x ∷ xs) (y ∷ ys) (suc k) d l e left h = said_here (λ j z. P (suc j) z) xs ys k d (omega arith) (omega arith) left (λ j z at. h (suc j) z at)

left_suc : {A : Type 0} (xs ys : List A) (k : ℕ) (v : A) → k < length xs → length xs ≡ length ys → drop k xs ≡ drop k ys → drop (suc k) (slice_set xs k v) ≡ drop (suc k) ys
left_suc [] ys k v l e left = absurd (omega arith)
left_suc (x ∷ xs) [] k v l e left = absurd (omega arith)
left_suc (x ∷ xs) (y ∷ ys) zero v l e left = cc
left_suc (x ∷ xs) (y ∷ ys) (suc k) v l e left = left_suc xs ys k v (omega arith) (omega arith) left

-- what comes after is as it was
pub left_next : {A : Type 0} (xs ys : List A) (k : ℕ) (v : A) → k < length xs → length xs ≡ length ys → drop k xs ≡ drop k ys → drop (k + 1) (slice_set xs k v) ≡ drop (k + 1) ys
left_next xs ys k v l e left = rw add-one (left_suc xs ys k v l e left)

all_suc : {A : Type 0} (P : A → Type 0) (xs : List A) (k : ℕ) (v : A) → k < length xs → All P (take k xs) → P v → All P (take (suc k) (slice_set xs k v))
all_suc P [] k v l h p = absurd (omega arith)
all_suc P (x ∷ xs) zero v l h p = All-cons P v [] p (All-nil P)
all_suc P (x ∷ xs) (suc k) v l h p = All-cons P x (take (suc k) (slice_set xs k v)) (All-head P x (take k xs) h) (all_suc P xs k v (omega arith) (All-tail P x (take k xs) h) p)

pub all_next : {A : Type 0} (P : A → Type 0) (xs : List A) (k : ℕ) (v : A) → k < length xs → All P (take k xs) → P v → All P (take (k + 1) (slice_set xs k v))
all_next P xs k v l h p = rw add-one (all_suc P xs k v l h p)

same_suc : {A B : Type 0} (f g : A → B) (xs ys : List A) (k : ℕ) (v d : A) → k < length xs → length xs ≡ length ys → drop k xs ≡ drop k ys → map f (take k xs) ≡ map g (take k ys) → f v ≡ g (slice_index_or xs k d) → map f (take (suc k) (slice_set xs k v)) ≡ map g (take (suc k) ys)
same_suc f g [] ys k v d l e left done new = absurd (omega arith)
same_suc f g (x ∷ xs) [] k v d l e left done new = absurd (omega arith)
same_suc f g (x ∷ xs) (y ∷ ys) zero v d l e left done new = let same : x ≡ y = cc in ap (λ z. z ∷ []) (new ∙ ap g same)
same_suc f g (x ∷ xs) (y ∷ ys) (suc k) v d l e left done new =
    let head : f x ≡ g y = cc in
    let rest : map f (take k xs) ≡ map g (take k ys) = cc in
    ap (λ z. z ∷ map f (take (suc k) (slice_set xs k v))) head ∙ ap (λ zs. g y ∷ zs) (same_suc f g xs ys k v d (omega arith) (omega arith) left rest new)

pub same_next : {A B : Type 0} (f g : A → B) (xs ys : List A) (k : ℕ) (v d : A) → k < length xs → length xs ≡ length ys → drop k xs ≡ drop k ys → map f (take k xs) ≡ map g (take k ys) → f v ≡ g (slice_index_or xs k d) → map f (take (k + 1) (slice_set xs k v)) ≡ map g (take (k + 1) ys)
same_next f g xs ys k v d l e left done new = rw add-one (same_suc f g xs ys k v d l e left done new)

zip_suc : {A B : Type 0} (R : B → B → Type 0) (f g : A → B) (xs ys : List A) (k : ℕ) (v d : A) → k < length xs → length xs ≡ length ys → drop k xs ≡ drop k ys → AllZip R (map f (take k ys)) (map g (take k xs)) → R (f (slice_index_or xs k d)) (g v) → AllZip R (map f (take (suc k) ys)) (map g (take (suc k) (slice_set xs k v)))
zip_suc R f g [] ys k v d l e left done new = absurd (omega arith)
zip_suc R f g (x ∷ xs) [] k v d l e left done new = absurd (omega arith)
zip_suc R f g (x ∷ xs) (y ∷ ys) zero v d l e left done new = let same : x ≡ y = cc in (subst (λ z. R (f z) (g v)) same new, tt)
zip_suc R f g (x ∷ xs) (y ∷ ys) (suc k) v d l e left done new = (done.0, zip_suc R f g xs ys k v d (omega arith) (omega arith) left done.1 new)

pub zip_next : {A B : Type 0} (R : B → B → Type 0) (f g : A → B) (xs ys : List A) (k : ℕ) (v d : A) → k < length xs → length xs ≡ length ys → drop k xs ≡ drop k ys → AllZip R (map f (take k ys)) (map g (take k xs)) → R (f (slice_index_or xs k d)) (g v) → AllZip R (map f (take (k + 1) ys)) (map g (take (k + 1) (slice_set xs k v)))
zip_next R f g xs ys k v d l e left done new = rw add-one (zip_suc R f g xs ys k v d l e left done new)

-- where the walk stops, all is as it was
pub same_whole : {A B : Type 0} (f : A → B) (xs ys : List A) (k : ℕ) (v d : A) → k < length xs → length xs ≡ length ys → drop k xs ≡ drop k ys → map f (take k xs) ≡ map f (take k ys) → f v ≡ f (slice_index_or xs k d) → map f (slice_set xs k v) ≡ map f ys
same_whole f [] ys k v d l e left done new = absurd (omega arith)
same_whole f (x ∷ xs) [] k v d l e left done new = absurd (omega arith)
same_whole f (x ∷ xs) (y ∷ ys) zero v d l e left done new = ap (λ z. z ∷ map f xs) new ∙ ap (map f) left
same_whole f (x ∷ xs) (y ∷ ys) (suc k) v d l e left done new =
    let head : f x ≡ f y = cc in
    let rest : map f (take k xs) ≡ map f (take k ys) = cc in
    ap (λ z. z ∷ map f (slice_set xs k v)) head ∙ ap (λ zs. f y ∷ zs) (same_whole f xs ys k v d (omega arith) (omega arith) left rest new)

sum_suc : {A : Type 0} (f : A → ℕ) (xs : List A) (k : ℕ) (v : A) → k < length xs → sum_by f (take (suc k) (slice_set xs k v)) ≡ sum_by f (take k xs) + f v
sum_suc f [] k v l = absurd (omega arith)
sum_suc f (x ∷ xs) zero v l = let e = sum_by-cons f v [] in omega arith
sum_suc f (x ∷ xs) (suc k) v l =
    let rest = sum_suc f xs k v (omega arith) in
    let a = sum_by-cons f x (take (suc k) (slice_set xs k v)) in
    let b = sum_by-cons f x (take k xs) in
    omega arith

-- one number more is summed
pub sum_next : {A : Type 0} (f : A → ℕ) (xs : List A) (k : ℕ) (v : A) → k < length xs → sum_by f (take (k + 1) (slice_set xs k v)) ≡ sum_by f (take k xs) + f v
sum_next f xs k v l = rw add-one (sum_suc f xs k v l)

-- What comes at a place of the second list, where the first one is related to it.
pub record IsPaired {A B C : Type 0} (R : B → C → Type 0) (f : A → B) (x : A) (weight : C → ℕ) (ms : List C) (k : ℕ) : Type 0 where
  pub other : C
  pub related : R (f x) other
  pub sum : sum_by weight (take (k + 1) ms) ≡ sum_by weight (take k ms) + weight other
  pub within : sum_by weight (take (k + 1) ms) ≤ sum_by weight ms

pair_suc : {A B C : Type 0} (R : B → C → Type 0) (f : A → B) (weight : C → ℕ) (xs ys : List A) (ms : List C) (k : ℕ) (d : A) → k < length xs → length xs ≡ length ys → drop k xs ≡ drop k ys → AllZip R (map f ys) ms → (m : C) × R (f (slice_index_or xs k d)) m × (sum_by weight (take (suc k) ms) ≡ sum_by weight (take k ms) + weight m)
pair_suc R f weight [] ys ms k d l e left z = absurd (omega arith)
pair_suc R f weight (x ∷ xs) [] ms k d l e left z = absurd (omega arith)
pair_suc R f weight (x ∷ xs) (y ∷ ys) [] k d l e left z = absurd z
pair_suc R f weight (x ∷ xs) (y ∷ ys) (m ∷ ms) zero d l e left z =
    let same : x ≡ y = cc in
    let s = sum_by-cons weight m [] in
    (m, subst (λ v. R (f v) m) (sym same) z.0, omega arith)
pair_suc R f weight (x ∷ xs) (y ∷ ys) (m ∷ ms) (suc k) d l e left z =
    let rest = pair_suc R f weight xs ys ms k d (omega arith) (omega arith) left z.1 in
    let a = sum_by-cons weight m (take (suc k) ms) in
    let b = sum_by-cons weight m (take k ms) in
    let r = rest.2 in
    (rest.0, rest.1, omega arith)

pub pair_at : {A B C : Type 0} (R : B → C → Type 0) (f : A → B) (weight : C → ℕ) (xs ys : List A) (ms : List C) (k : ℕ) (d : A) → k < length xs → length xs ≡ length ys → drop k xs ≡ drop k ys → AllZip R (map f ys) ms → IsPaired R f (slice_index_or xs k d) weight ms k
pair_at R f weight xs ys ms k d l e left z =
    let r = pair_suc R f weight xs ys ms k d l e left z in
    record { other = r.0; related = r.1; sum = rw add-one r.2; within = sum_by-take-le weight ms (k + 1) }

-- a fact of each mapped element is one of each element
pub all_mapped : {A B : Type 0} (P : B → Type 0) (f : A → B) (xs : List A) → All P (map f xs) → All (λ x. P (f x)) xs
all_mapped P f [] h = All-nil (λ x. P (f x))
all_mapped P f (x ∷ xs) h = All-cons (λ x. P (f x)) x xs (All-head P (f x) (map f xs) h) (all_mapped P f xs (All-tail P (f x) (map f xs) h))
