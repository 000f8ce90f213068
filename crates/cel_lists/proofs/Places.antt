-- The numbers below a bound that pass a test, and lists of numbers that rise.
use Rattle.std.proofs.Common.{◌≡◌, refl, sym, ap, ap₂, subst, ◌∙◌, ℕ, zero, suc, ◌+◌, ◌<◌, inl, inr, Bool, true, false, List, [], ◌∷◌, ◌++◌, take, length, get_or, Some, append-nil, arith}
use Rattle.std.specs.Prelude.{if◌then◌else◌, slice_get}
use Rattle.std.proofs.lemmas.Bool.{cases_lt}
use Rattle.std.proofs.lemmas.List.Sums.{fold_more}
use Rattle.stream_schema.specs.Types.{Declared}
use Rattle.stream_schema.specs.declared.Event.{Event}
use Rattle.cel_terms.specs.declared.Query.{Query}
use Rattle.cel_terms.specs.Answers.{IsAscending}
use Rattle.cel_lists.specs.declared.Match.{Match}
use Rattle.cel_lists.specs.Below.{below, with_new, answer_of, answers_from}
use Rattle.cel_lists.proofs.Members.{Among, among_left, among_right, among_cases}

pub answers_more : (schema : Declared) (q : Query) (events : List Event) (positions : List ℕ) (end : ℕ) (ms : List Match) (i : ℕ) (d : Match) → i < length ms → answers_from schema q events positions end (take (i + 1) ms) ≡ with_new (answers_from schema q events positions end (take i ms)) (answer_of schema q events positions end (get_or ms i d))
answers_more schema q events positions end ms i d less = fold_more (λ found m. with_new found (answer_of schema q events positions end m)) [] ms i d less

one_to : (b : Bool) (n p : ℕ) → p ≡ n → b ≡ true → Among p (if b then n ∷ [] else [])
one_to true n p e t = inl (sym e)
one_to false n p e t = absurd cc

one_from : (b : Bool) (n p : ℕ) → Among p (if b then n ∷ [] else []) → (n ≡ p) × (b ≡ true)
one_from true n p (inl h) = (h, refl)
one_from true n p (inr h) = absurd h
one_from false n p h = absurd h

pub below_to : (t : ℕ → Bool) (n p : ℕ) → p < n → t p ≡ true → Among p (below t n)
below_to t zero p less e = absurd (omega arith)
below_to t (suc n) p less e =
    elim (cases_lt p n) [
      | inl l ↦ among_left p (below t n) (if t n then n ∷ [] else []) (below_to t n p l e)
      | inr m ↦ among_right p (below t n) (if t n then n ∷ [] else []) (let same : p ≡ n = omega arith in one_to (t n) n p same (ap t (sym same) ∙ e))
    ]

pub below_from : (t : ℕ → Bool) (n p : ℕ) → Among p (below t n) → (p < n) × (t p ≡ true)
below_from t zero p h = absurd h
below_from t (suc n) p h =
    elim (among_cases p (below t n) (if t n then n ∷ [] else []) h) [
      | inl a ↦ (let r = below_from t n p a in let l = r.0 in (omega arith, r.1))
      | inr b ↦ (let o = one_from (t n) n p b in let same = o.0 in (omega arith, ap t (sym same) ∙ o.1))
    ]

-- each number is less than all after it
abbrev pub Rises : List ℕ → Type 0
Rises [] = Unit {0}
Rises (x ∷ xs) = ((y : ℕ) → Among y xs → x < y) × Rises xs

rises_append : (xs : List ℕ) (n : ℕ) → Rises xs → ((y : ℕ) → Among y xs → y < n) → Rises (xs ++ n ∷ [])
rises_append [] n r h = (λ y a. absurd a, tt)
rises_append (x ∷ xs) n r h = (later, rises_append xs n r.1 (λ y a. h y (inr a)))
  where
    later : (y : ℕ) → Among y (xs ++ n ∷ []) → x < y
    later y a = elim (among_cases y xs (n ∷ []) a) [
      | inl b ↦ r.0 y b
      | inr b ↦ elim b [ inl e ↦ subst (λ (k : ℕ). x < k) e (h x (inl refl)) | inr f ↦ absurd f ]
    ]

rises_if : (xs : List ℕ) (b : Bool) (n : ℕ) → Rises xs → ((y : ℕ) → Among y xs → y < n) → Rises (xs ++ (if b then n ∷ [] else []))
rises_if xs true n r h = rises_append xs n r h
rises_if xs false n r h = subst Rises (sym (append-nil xs)) r

pub below_rises : (t : ℕ → Bool) (n : ℕ) → Rises (below t n)
below_rises t zero = tt
below_rises t (suc n) = rises_if (below t n) (t n) n (below_rises t n) (λ y a. (below_from t n y a).0)

get_among : (xs : List ℕ) (i y : ℕ) → slice_get xs i ≡ Some y → Among y xs
get_among [] i y e = absurd cc
get_among (x ∷ xs) zero y e = inl cc
get_among (x ∷ xs) (suc i) y e = inr (get_among xs i y e)

pub ascends : (xs : List ℕ) → Rises xs → IsAscending xs
ascends [] r i j x y less p q = absurd cc
ascends (z ∷ zs) r i zero x y less p q = absurd (omega arith)
ascends (z ∷ zs) r zero (suc j) x y less p q = let same : z ≡ x = cc in subst (λ (k : ℕ). k < y) same (r.0 y (get_among zs j y q))
ascends (z ∷ zs) r (suc i) (suc j) x y less p q = ascends zs r.1 i j x y (omega arith) p q

among_get : (xs : List ℕ) (y : ℕ) → Among y xs → (i : ℕ) × (slice_get xs i ≡ Some y)
among_get [] y a = absurd a
among_get (x ∷ xs) y (inl e) = (0, ap Some e)
among_get (x ∷ xs) y (inr a) = let r = among_get xs y a in (suc r.0, r.1)

pub rises : (xs : List ℕ) → IsAscending xs → Rises xs
rises [] up = tt
rises (x ∷ xs) up = (
  λ y a. (let g = among_get xs y a in up 0 (suc g.0) x y (omega arith) refl g.1),
  rises xs (λ i j a b less p q. up (suc i) (suc j) a b (omega arith) p q),
)

-- Two lists that rise and have the same members are one.
pub one_list : (xs ys : List ℕ) → Rises xs → Rises ys → ((p : ℕ) → Among p xs → Among p ys) → ((p : ℕ) → Among p ys → Among p xs) → xs ≡ ys
one_list [] [] r s f g = refl
one_list [] (y ∷ ys) r s f g = absurd (g y (inl refl))
one_list (x ∷ xs) [] r s f g = absurd (f x (inl refl))
one_list (x ∷ xs) (y ∷ ys) r s f g =
    let same : x ≡ y = first_same (f x (inl refl)) (g y (inl refl)) in
    ap₂ (λ a b. a ∷ b) same (one_list xs ys r.1 s.1
    (λ p a. strip (f p (inr a)) (let l = r.0 p a in omega arith))
    (λ p a. back (g p (inr a)) (let l = s.0 p a in omega arith)))
  where
    first_same : Among x (y ∷ ys) → Among y (x ∷ xs) → x ≡ y
    first_same (inl e) b = sym e
    first_same (inr a) (inl e) = e
    first_same (inr a) (inr b) = let p = s.0 x a in let q = r.0 y b in absurd (omega arith)

    strip : {p : ℕ} → Among p (y ∷ ys) → (y ≡ p → ⊥) → Among p ys
    strip (inl e) n = absurd (n e)
    strip (inr a) n = a

    back : {p : ℕ} → Among p (x ∷ xs) → (x ≡ p → ⊥) → Among p xs
    back (inl e) n = absurd (n e)
    back (inr a) n = a
