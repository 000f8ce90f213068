-- What a sort leaves is in order, where each thing that is sorted stands for a complex event.
use Rattle.std.proofs.Common.{Ordering, ◌≡◌, ℕ, ◌<◌, length, Some, zero, suc, Bool, true, false, List, [], ◌∷◌, map, get_or, ◌↔◌, Contains, refl, subst, arith}
use Rattle.std.specs.Prelude.{slice_get}
use Rattle.std.specs.Cmp.{IsStrictWeakOrder}
use Rattle.std.specs.Fn.{Called, ComparesAs, ReturnsEach, AlwaysReturns}
use denote.Param.Members.{Mut}
use denote.Ref.{Bor}
use Rattle.std.specs.declared.cmp.Ordering.TheVariants.{Less, Equal, Greater}
use Rattle.std.specs.Ordering.{is_lt}
use Rattle.std.proofs.lemmas.List.Sorted.{ranks_by, sorted_far}
use Rattle.std.proofs.lemmas.Cmp.{nat_list_cmp_total}
use Rattle.std.specs.List.Sorted.{IsSortedBy}
use Rattle.std.proofs.lemmas.Option.{slice_get_within, get_or_from_slice_get}
use Rattle.cel_terms.specs.Answers.{Answer}
use Rattle.cer_base.specs.Repeats.{HasNoRepeats}
use Rattle.answer_text.specs.Output.{ComesBefore, EachBeforeNext}
use Rattle.answer_text.proofs.Ordered.{key, compared, is_less, is_equal, is_greater}

apart : (xs : List Answer) → HasNoRepeats xs → (i j : ℕ) (a : Answer) → i < j → slice_get xs i ≡ Some a → slice_get xs j ≡ Some a → ⊥
apart [] h i j a less p q = cc
apart (x ∷ xs) h i zero a less p q = absurd (omega arith)
apart (x ∷ xs) h zero (suc j) a less p q =
    let first : a ≡ x = cc in
    h.0 (subst (Contains xs) first (j, slice_get_within xs j a q, get_or_from_slice_get xs j a a q))
apart (x ∷ xs) h (suc i) (suc j) a less p q = apart xs h.1 i j a (omega arith) p q

-- whether the one comes before the other
abbrev is_before : Answer → Answer → Bool
is_before a b = is_lt (compared a b)

not_after : (a b : Answer) (o : Ordering) → o ≡ compared b a → is_lt o ≡ false → (b ≡ a → ⊥) → ComesBefore a b
not_after a b Less e low apart = absurd (let no : true ≡ false = low in cc)
not_after a b Equal e low apart = absurd (apart ((is_equal b a Equal e).0 refl))
not_after a b Greater e low apart = (is_greater b a Greater e).0 refl

-- what tells the order tells the test
tells_before : (a b : Answer) (r : Ordering) → ((r ≡ Less) ↔ ComesBefore a b) → is_lt r ≡ is_before a b
tells_before a b r h = told a b r (compared a b) refl h
  where
    told : (a b : Answer) (r o : Ordering) → o ≡ compared a b → ((r ≡ Less) ↔ ComesBefore a b) → is_lt r ≡ is_lt o
    told a b Less Less e h = refl
    told a b Less Equal e h = absurd (let no = (is_less a b Equal e).1 (h.0 refl) in cc)
    told a b Less Greater e h = absurd (let no = (is_less a b Greater e).1 (h.0 refl) in cc)
    told a b Equal Less e h = absurd (let no = h.1 ((is_less a b Less e).0 refl) in cc)
    told a b Equal Equal e h = refl
    told a b Equal Greater e h = refl
    told a b Greater Less e h = absurd (let no = h.1 ((is_less a b Less e).0 refl) in cc)
    told a b Greater Equal e h = refl
    told a b Greater Greater e h = refl

-- calls of a closure of which each keeps what was captured
module _ {F X R : Type 0} (g : Mut F X R) (P : X → R → Type 0) (Keeps : F → Type 0) (step : (f : F) (a : X) (r : R) (f' : F) → Called g f a r f' → Keeps f → P a r × Keeps f') where
  each_answers : (xs : List X) (f : F) → Keeps f → ReturnsEach g P f xs
  each_answers [] f k = tt
  each_answers (a ∷ xs) f k = λ r f' c. let done = step f a r f' c k in (done.0, each_answers xs f' done.1)

  answers_by : (f : F) → Keeps f → AlwaysReturns g P f
  answers_by f k = record { at = λ xs. each_answers xs f k }

module _ {A : Type 0} (f : A → Answer) where
  -- what an answer of the list is that of
  origin : (xs : List A) (i : ℕ) (a : Answer) → slice_get (map f xs) i ≡ Some a → (x : A) × (slice_get xs i ≡ Some x) × (f x ≡ a)
  origin [] i a p = absurd cc
  origin (x ∷ xs) zero a p = (x, refl, cc)
  origin (x ∷ xs) (suc i) a p = origin xs i a p

  sorted_is : (xs : List A) → IsSortedBy (λ x y. is_before (f x) (f y)) xs → HasNoRepeats (map f xs) → EachBeforeNext (map f xs)
  sorted_is xs up h i j a b less p q =
      let one = origin xs i a p in
      let other = origin xs j b q in
      let within : j < length xs = slice_get_within xs j other.0 other.1 in
      let first : get_or xs i one.0 ≡ one.0 = get_or_from_slice_get xs i one.0 one.0 one.1 in
      let second : get_or xs j one.0 ≡ other.0 = get_or_from_slice_get xs j other.0 one.0 other.1 in
      let low : is_before (f (get_or xs j one.0)) (f (get_or xs i one.0)) ≡ false = sorted_far (λ x y. is_before (f x) (f y)) (ranks_by nat_list_cmp_total (λ x. key (f x))) xs up i j one.0 (omega arith) within in
      let low_there : is_before (f other.0) (f one.0) ≡ false = subst (λ (y : A). is_before (f y) (f one.0) ≡ false) second (subst (λ (x : A). is_before (f (get_or xs j one.0)) (f x) ≡ false) first low) in
      let low_here : is_lt (compared b a) ≡ false = subst (λ (y : Answer). is_before y a ≡ false) other.2 (subst (λ (x : Answer). is_before (f other.0) x ≡ false) one.2 low_there) in
      not_after a b (compared b a) refl low_here (λ same. apart (map f xs) h i j a less p (subst (λ (y : Answer). slice_get (map f xs) j ≡ Some y) same q))

  -- What `sort_unstable_by` leaves, where each call answers by the order, as long as what was captured stays.
  pub sorted_by_order : {F : Type 0} {g : Mut F (Bor A × (Bor A × Unit {0})) Ordering} {called : F} (Keeps : F → Type 0) (xs : List A) →
      ((lt : A → A → Bool) → IsStrictWeakOrder lt → ComparesAs g lt called → IsSortedBy lt xs) →
      ((c : F) (a : Bor A × (Bor A × Unit {0})) (r : Ordering) (c' : F) → Called g c a r c' → Keeps c → ((r ≡ Less) ↔ ComesBefore (f a.0.now) (f a.1.0.now)) × Keeps c') →
      Keeps called → HasNoRepeats (map f xs) → EachBeforeNext (map f xs)
  sorted_by_order {F} {g} {called} Keeps xs sorted calls kept =
      sorted_is xs (sorted (λ x y. is_before (f x) (f y)) (ranks_by nat_list_cmp_total (λ x. key (f x)))
      (answers_by g (λ a r. is_lt r ≡ is_before (f a.0.now) (f a.1.0.now)) Keeps (λ c a r c' told k. let done = calls c a r c' told k in (tells_before (f a.0.now) (f a.1.0.now) r done.0, done.1)) called kept))
