-- In sorted order, and without ANY, there is one output at most. For callers of the crate too.
use Rattle.std.proofs.Common.{◌≡◌, refl, sym, ap, ap₂, subst, ◌∙◌, ℕ, zero, suc, ◌+◌, inl, inr, ◌⊎◌, List, [], ◌∷◌, ◌++◌, length, Option, Some, None, slice_get, arith}
use Rattle.std.specs.Prelude.{All, Contains, flat_map}
use Rattle.std.proofs.lemmas.List.Elements.{All-head, All-tail}
use Rattle.stream_schema.specs.Types.{Declared}
use Rattle.stream_schema.specs.declared.Event.{Event}
use Rattle.cel_terms.specs.declared.Query.{Query}
use Rattle.cel_terms.specs.Answers.{Answer, IsAnswer}
use Rattle.answer_text.specs.declared.Order.TheVariants.{Sorted}
use Rattle.answer_text.specs.Output.{line, IsBefore, ComesBefore, EachBeforeNext, AreEnough, IsBlock, AreBlocks, IsOutputOf, IsOutput}

-- of two lists one at most is before the other
not_both : (xs ys : List ℕ) → IsBefore xs ys → IsBefore ys xs → ⊥
not_both [] [] h k = h
not_both [] (y ∷ ys) h k = k
not_both (x ∷ xs) [] h k = h
not_both (x ∷ xs) (y ∷ ys) (inl h) (inl k) = omega arith
not_both (x ∷ xs) (y ∷ ys) (inl h) (inr k) = let same = k.0 in omega arith
not_both (x ∷ xs) (y ∷ ys) (inr h) (inl k) = let same = h.0 in omega arith
not_both (x ∷ xs) (y ∷ ys) (inr h) (inr k) = not_both xs ys h.1 k.1

nothing_in : (a : Answer) → Contains [] a → ⊥
nothing_in a c = let less = c.1 in omega arith

-- the answer is the first or one of the rest
first_or_later : (a x : Answer) (xs : List Answer) → Contains (x ∷ xs) a → (x ≡ a) ⊎ Contains xs a
first_or_later a x xs (zero, within, at) = inl at
first_or_later a x xs (suc k, within, at) = inr (k, omega arith, at)

later_contains : (a x : Answer) (xs : List Answer) → Contains xs a → Contains (x ∷ xs) a
later_contains a x xs (k, within, at) = (suc k, omega arith, at)

-- where an answer stands
place_of : (a : Answer) (xs : List Answer) → Contains xs a → (i : ℕ) × (slice_get xs i ≡ Some a)
place_of a [] h = absurd (nothing_in a h)
place_of a (x ∷ xs) (zero, within, at) = (0, ap (λ (y : Answer). Some y) at)
place_of a (x ∷ xs) (suc k, within, at) = let p = place_of a xs (k, omega arith, at) in (suc p.0, p.1)

-- each answer after the first comes after it
after_first : (x : Answer) (xs : List Answer) → EachBeforeNext (x ∷ xs) → (a : Answer) → Contains xs a → ComesBefore x a
after_first x xs h a has = let p = place_of a xs has in h 0 (suc p.0) x a (omega arith) refl p.1

rest_in_order : (x : Answer) (xs : List Answer) → EachBeforeNext (x ∷ xs) → EachBeforeNext xs
rest_in_order x xs h i j a b less at_i at_j = h (suc i) (suc j) a b (omega arith) at_i at_j

-- each answer of the one is in the other
abbrev Includes : List Answer → List Answer → Type 0
Includes xs ys = (a : Answer) → Contains ys a → Contains xs a

same_first : (x y : Answer) (xs ys : List Answer) → EachBeforeNext (x ∷ xs) → EachBeforeNext (y ∷ ys) → Includes (x ∷ xs) (y ∷ ys) → Includes (y ∷ ys) (x ∷ xs) → x ≡ y
same_first x y xs ys p q f g = elim (first_or_later y x xs (f y (0, omega arith, refl))) [
  | inl same ↦ same
  | inr later ↦ elim (first_or_later x y ys (g x (0, omega arith, refl))) [
    | inl same ↦ sym same
    | inr after ↦ absurd (not_both (x.start ∷ x.marks) (y.start ∷ y.marks) (after_first x xs p y later) (after_first y ys q x after))
  ]
]

-- without the first answer
rest_includes : (x y : Answer) (xs ys : List Answer) → x ≡ y → EachBeforeNext (y ∷ ys) → Includes (x ∷ xs) (y ∷ ys) → Includes xs ys
rest_includes x y xs ys same q f a has = elim (first_or_later a x xs (f a (later_contains a y ys has))) [
  | inl here ↦
      let after : ComesBefore y a = after_first y ys q a has in
      let itself : ComesBefore a a = subst (λ (b : Answer). ComesBefore b a) (sym same ∙ here) after in
      absurd (not_both (a.start ∷ a.marks) (a.start ∷ a.marks) itself itself)
  | inr later ↦ later
]

-- Two lists in sorted order with the same answers are equal.
pub in_one_order : (xs ys : List Answer) → EachBeforeNext xs → EachBeforeNext ys → Includes xs ys → Includes ys xs → xs ≡ ys
in_one_order [] [] p q f g = refl
in_one_order [] (y ∷ ys) p q f g = absurd (nothing_in y (f y (0, omega arith, refl)))
in_one_order (x ∷ xs) [] p q f g = absurd (nothing_in x (g x (0, omega arith, refl)))
in_one_order (x ∷ xs) (y ∷ ys) p q f g =
    let same : x ≡ y = same_first x y xs ys p q f g in
    ap₂ (λ (a : Answer) (as' : List Answer). a ∷ as') same
    (in_one_order xs ys (rest_in_order x xs p) (rest_in_order y ys q) (rest_includes x y xs ys same q f) (rest_includes y x ys xs (sym same) p g))

-- without ANY all answers are there
pub all_there : (any : Option ℕ) (Is : Answer → Type 0) (answers : List Answer) → any ≡ None → AreEnough any Is answers → (a : Answer) → Is a → Contains answers a
all_there None Is answers none h = h
all_there (Some n) Is answers none h = absurd cc

pub one_block : (schema : Declared) (number : ℕ) (q : Query) (events : List Event) (end : ℕ) (bytes others : List ℕ) → q.any ≡ None → IsBlock Sorted schema number q events end bytes → IsBlock Sorted schema number q events end others → bytes ≡ others
one_block schema number q events end bytes others none h k =
    let Is : Answer → Type 0 = IsAnswer schema q events end in
    let same : h.answers ≡ k.answers = in_one_order h.answers k.answers h.ordered k.ordered
    (λ a has. all_there q.any Is h.answers none h.enough a (k.right a has))
    (λ a has. all_there q.any Is k.answers none k.enough a (h.right a has)) in
    h.written ∙ ap (λ (answers : List Answer). flat_map (line number end) answers) same ∙ sym k.written

pub one_row_of_blocks : (schema : Declared) (number : ℕ) (queries : List Query) (events : List Event) (end : ℕ) (bytes others : List ℕ) → All (λ q. q.any ≡ None) queries → AreBlocks Sorted schema number queries events end bytes → AreBlocks Sorted schema number queries events end others → bytes ≡ others
one_row_of_blocks schema number [] events end bytes others none h k = h ∙ sym k
one_row_of_blocks schema number (q ∷ qs) events end bytes others none h k =
    let first = one_block schema number q events end h.0 k.0 (All-head (λ (p : Query). p.any ≡ None) q qs none) h.2 k.2 in
    let rest = one_row_of_blocks schema (number + 1) qs events end h.1 k.1 (All-tail (λ (p : Query). p.any ≡ None) q qs none) h.3 k.3 in
    h.4 ∙ ap₂ (λ (a b : List ℕ). a ++ b) first rest ∙ sym k.4

pub one_output_of : (n : ℕ) (schema : Declared) (queries : List Query) (events : List Event) (bytes others : List ℕ) → All (λ q. q.any ≡ None) queries → IsOutputOf n Sorted schema queries events bytes → IsOutputOf n Sorted schema queries events others → bytes ≡ others
one_output_of zero schema queries events bytes others none h k = h ∙ sym k
one_output_of (suc n) schema queries events bytes others none h k =
    let before = one_output_of n schema queries events h.0 k.0 none h.2 k.2 in
    let here = one_row_of_blocks schema 1 queries events n h.1 k.1 none h.3 k.3 in
    h.4 ∙ ap₂ (λ (a b : List ℕ). a ++ b) before here ∙ sym k.4

-- In sorted order, and without ANY, two outputs are the same bytes.
pub one_output : (schema : Declared) (queries : List Query) (events : List Event) (bytes others : List ℕ) → All (λ q. q.any ≡ None) queries → IsOutput Sorted schema queries events bytes → IsOutput Sorted schema queries events others → bytes ≡ others
one_output schema queries events bytes others = one_output_of (length events) schema queries events bytes others
