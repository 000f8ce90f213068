-- The order of answers is that of std on the start with the marks. For callers of the crate too.
use Rattle.std.proofs.Common.{Ordering, ◌≡◌, ℕ, ◌<◌, inl, inr, ◌↔◌, List, [], ◌∷◌, refl, sym, ◌∙◌, ap, arith}
use Rattle.std.specs.declared.cmp.Ordering.TheVariants.{Less, Equal, Greater}
use Rattle.std.specs.Ordering.{nat_cmp, ordering_then, ordering_reverse}
use Rattle.std.specs.Cmp.Lexicographic.{slice_cmp}
use Rattle.std.proofs.lemmas.Cmp.{ranked, by_ranked, nat_list_cmp_total, tied_itself}
use Rattle.std.proofs.lemmas.Map.Lookups.{exact_bytes}
use Rattle.cel_terms.specs.Answers.{Answer}
use Rattle.answer_text.specs.Output.{IsBefore, ComesBefore}

-- the numbers by which answers are ordered
abbrev pub key : Answer → List ℕ
key a = a.start ∷ a.marks

abbrev pub compared : Answer → Answer → Ordering
compared a b = slice_cmp nat_cmp (key a) (key b)

less_first : (x y : ℕ) → x < y → nat_cmp x y ≡ Less
less_first x y p =
    by_ranked (x < y) (x ≡ y) (y < x) (nat_cmp x y) (ranked x y (nat_cmp x y) refl) (λ e q. e) (λ e q. absurd (omega arith)) (λ e q. absurd (omega arith))

same_first : (x y : ℕ) → x ≡ y → nat_cmp x y ≡ Equal
same_first x y p =
    by_ranked (x < y) (x ≡ y) (y < x) (nat_cmp x y) (ranked x y (nat_cmp x y) refl) (λ e q. absurd (omega arith)) (λ e q. e) (λ e q. absurd (omega arith))

before_from : (xs ys : List ℕ) → slice_cmp nat_cmp xs ys ≡ Less → IsBefore xs ys
before_from [] [] e = absurd (let no : Equal ≡ Less = e in cc)
before_from [] (y ∷ ys) e = tt
before_from (x ∷ xs) [] e = absurd (let no : Greater ≡ Less = e in cc)
before_from (x ∷ xs) (y ∷ ys) e =
    by_ranked (x < y) (x ≡ y) (y < x) (nat_cmp x y) (ranked x y (nat_cmp x y) refl)
    (λ o q. inl q)
    (λ o q. inr (q, before_from xs ys (sym (ap (λ (r : Ordering). ordering_then r (slice_cmp nat_cmp xs ys)) o) ∙ e)))
    (λ o q. absurd (let no : Greater ≡ Less = sym (ap (λ (r : Ordering). ordering_then r (slice_cmp nat_cmp xs ys)) o) ∙ e in cc))

before_to : (xs ys : List ℕ) → IsBefore xs ys → slice_cmp nat_cmp xs ys ≡ Less
before_to [] [] h = absurd h
before_to [] (y ∷ ys) h = refl
before_to (x ∷ xs) [] h = absurd h
before_to (x ∷ xs) (y ∷ ys) (inl p) = ap (λ (r : Ordering). ordering_then r (slice_cmp nat_cmp xs ys)) (less_first x y p)
before_to (x ∷ xs) (y ∷ ys) (inr p) = ap (λ (r : Ordering). ordering_then r (slice_cmp nat_cmp xs ys)) (same_first x y p.0) ∙ before_to xs ys p.1

same_key : (a b : Answer) → key a ≡ key b → a ≡ b
same_key a b e = let start : a.start ≡ b.start = cc in let marks : a.marks ≡ b.marks = cc in λ i. record { start = start i; marks = marks i }

-- Less where the one comes before the other,
pub is_less : (a b : Answer) (r : Ordering) → r ≡ compared a b → (r ≡ Less) ↔ ComesBefore a b
is_less a b r e = (λ l. before_from (key a) (key b) (sym e ∙ l), λ h. e ∙ before_to (key a) (key b) h)

-- equal where they are the same,
pub is_equal : (a b : Answer) (r : Ordering) → r ≡ compared a b → (r ≡ Equal) ↔ (a ≡ b)
is_equal a b r e = (
  λ l. same_key a b (exact_bytes (key a) (key b) (sym e ∙ l)),
  λ same. e ∙ ap (λ (x : Answer). compared a x) (sym same) ∙ tied_itself nat_list_cmp_total (key a),
)

turned : (o : Ordering) → ordering_reverse o ≡ Greater → o ≡ Less
turned Less e = refl
turned Equal e = absurd (let no : Equal ≡ Greater = e in cc)
turned Greater e = absurd (let no : Less ≡ Greater = e in cc)

-- and greater where the other comes before it.
pub is_greater : (a b : Answer) (r : Ordering) → r ≡ compared a b → (r ≡ Greater) ↔ ComesBefore b a
is_greater a b r e =
    let flip = nat_list_cmp_total.antisymm (key a) (key b) in (
      λ g. before_from (key b) (key a) (turned (compared b a) (sym flip ∙ sym e ∙ g)),
      λ h. e ∙ flip ∙ ap ordering_reverse (before_to (key b) (key a) h),
    )

-- What comes before what comes before a third comes before the third.
pub before_chain : (a b c : Answer) → ComesBefore a b → ComesBefore b c → ComesBefore a c
before_chain a b c h k =
    before_from (key a) (key c) (nat_list_cmp_total.trans (key a) (key b) (key c) (before_to (key a) (key b) h) (before_to (key b) (key c) k))
