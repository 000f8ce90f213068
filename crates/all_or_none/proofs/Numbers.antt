-- The numbers of the query states that are prepared, as they come, and as these query states commit one after the other.
use Rattle.std.proofs.Common.{◌≡◌, refl, sym, ap, subst, ◌∙◌, ℕ, zero, suc, ◌+◌, ◌<◌, ◌≤◌, ◌==◌, ◌⊎◌, inl, inr, Bool, true, false, ◌||◌, eqb, List, [], ◌∷◌, ◌++◌, length, take, Some, slice_get, slice_index_or, slice_set, arith}
use Rattle.std.proofs.lemmas.Bool.{cases_lt, eqb-true, eq-eqb, false≢true, or_cases, or_left, or_right}
use Rattle.std.proofs.lemmas.List.{get_or_append_left, get_or_push}
use Rattle.std.proofs.lemmas.List.Folds.{list_any-append, list_any_more}
use Rattle.stream_schema.specs.declared.Event.{Event}
use Rattle.query_standing.proofs.QueryStates.{length_more}
use Rattle.all_or_none.specs.Phases.{Phase, IsNoOpFor, IsPrepared, IsNoted, is_among, AreRising, AreSet}

-- what is read of a list in which an element was written
pub read_other : {A : Type 0} (xs : List A) (i j : ℕ) (x : A) → (j ≡ i → ⊥) → slice_get (slice_set xs i x) j ≡ slice_get xs j
read_other [] i j x other = refl
read_other (y ∷ ys) zero zero x other = absurd (other refl)
read_other (y ∷ ys) zero (suc j) x other = refl
read_other (y ∷ ys) (suc i) zero x other = refl
read_other (y ∷ ys) (suc i) (suc j) x other = read_other ys i j x (λ same. other (ap (λ n. suc n) same))

pub read_there : {A : Type 0} (xs : List A) (i : ℕ) (x v : A) → slice_get (slice_set xs i x) i ≡ Some v → v ≡ x
read_there [] i x v at = absurd cc
read_there (y ∷ ys) zero x v at = cc
read_there (y ∷ ys) (suc i) x v at = read_there ys i x v at

pub as_long : {A : Type 0} (xs : List A) (i : ℕ) (x : A) → length (slice_set xs i x) ≡ length xs
as_long [] i x = refl
as_long (y ∷ ys) zero x = refl
as_long (y ∷ ys) (suc i) x = let rest = as_long ys i x in omega arith

or_false : (b : Bool) → (b || false) ≡ b
or_false true = refl
or_false false = refl

-- one number more
pub among_push : (numbers : List ℕ) (n m : ℕ) → is_among (numbers ++ n ∷ []) m ≡ (is_among numbers m || eqb n m)
among_push numbers n m = list_any-append (λ x. x == m) numbers (n ∷ []) ∙ ap (λ b. is_among numbers m || b) (or_false (eqb n m))

pub among_next : (numbers : List ℕ) (i m : ℕ) → i < length numbers → is_among (take (i + 1) numbers) m ≡ (is_among (take i numbers) m || eqb (slice_index_or numbers i 0) m)
among_next numbers i m inside = list_any_more (λ x. x == m) numbers i 0 inside

pub among_at : (numbers : List ℕ) (i : ℕ) → i < length numbers → is_among numbers (slice_index_or numbers i 0) ≡ true
among_at [] i less = absurd (omega arith)
among_at (x ∷ xs) zero less = or_left (eqb x x) (is_among xs x) (eq-eqb x x refl)
among_at (x ∷ xs) (suc i) less = or_right (eqb x (slice_index_or xs i 0)) (is_among xs (slice_index_or xs i 0)) (among_at xs i (omega arith))

pub found_at : (numbers : List ℕ) (n : ℕ) → is_among numbers n ≡ true → (i : ℕ) × (i < length numbers) × (slice_index_or numbers i 0 ≡ n)
found_at [] n h = absurd (false≢true h)
found_at (x ∷ xs) n h = elim (or_cases (eqb x n) (is_among xs n) h) [
  | inl e ↦ (0, omega arith, eqb-true x n e)
  | inr r ↦ (let f = found_at xs n r in let less = f.1 in (suc f.0, omega arith, f.2))
]

-- a number above all others is put in last
pub rising_push : (numbers : List ℕ) (n : ℕ) → AreRising numbers → ((m : ℕ) → is_among numbers m ≡ true → m < n) → AreRising (numbers ++ n ∷ [])
rising_push numbers n rising below i j less within = by (cases_lt j (length numbers))
  where
    long : length (numbers ++ n ∷ []) ≡ length numbers + 1
    long = length_more numbers n

    by : (j < length numbers) ⊎ (length numbers ≤ j) → slice_index_or (numbers ++ n ∷ []) i 0 < slice_index_or (numbers ++ n ∷ []) j 0
    by (inl inside) =
        let a = get_or_append_left numbers (n ∷ []) 0 i (omega arith) in
        let b = get_or_append_left numbers (n ∷ []) 0 j inside in
        let r = rising i j less inside in
        omega arith
    by (inr outside) =
        let end : length numbers ≡ j = (let l = long in omega arith) in
        let first : i < length numbers = omega arith in
        let a = get_or_append_left numbers (n ∷ []) 0 i first in
        let b = get_or_push numbers n 0 j end in
        let r = below (slice_index_or numbers i 0) (among_at numbers i first) in
        omega arith

-- no query state yet
pub set_none : {P : Type 0} (before after : P → Phase) (event : Event) (position : ℕ) (numbers : List ℕ) (query_states : List P) → numbers ≡ [] → AreSet before after event position 0 numbers query_states
set_none before after event position numbers query_states none = subst (λ ns. AreSet before after event position 0 ns query_states) (sym none) (record {
  rising = λ i j less within. absurd (omega arith);
  within = λ n among. absurd (false≢true among);
  named = λ k p less at among. absurd (omega arith);
  others = λ k p less at among. absurd (omega arith);
})

-- The query state that comes next is prepared and noted.
module _ {P : Type 0} (before after : P → Phase) (event : Event) (position k : ℕ) (numbers : List ℕ) (xs : List P) (v : P) (h : AreSet before after event position k numbers xs) where
  above : (j : ℕ) → j < k → (eqb (k + 1) (j + 1) ≡ true) → ⊥
  above j less e = let same = eqb-true (k + 1) (j + 1) e in omega arith

  was_among : (j : ℕ) → j < k → is_among (numbers ++ (k + 1) ∷ []) (j + 1) ≡ true → is_among numbers (j + 1) ≡ true
  was_among j less among = elim (or_cases (is_among numbers (j + 1)) (eqb (k + 1) (j + 1)) (sym (among_push numbers (k + 1) (j + 1)) ∙ among)) [
    | inl was ↦ was
    | inr new ↦ absurd (above j less new)
  ]

  both_false : (a b : Bool) → (a || b) ≡ false → a ≡ false
  both_false true b e = e
  both_false false b e = refl

  was_other : (j : ℕ) → is_among (numbers ++ (k + 1) ∷ []) (j + 1) ≡ false → is_among numbers (j + 1) ≡ false
  was_other j among = both_false (is_among numbers (j + 1)) (eqb (k + 1) (j + 1)) (sym (among_push numbers (k + 1) (j + 1)) ∙ among)

  noted_within : (n : ℕ) → is_among (numbers ++ (k + 1) ∷ []) n ≡ true → (1 ≤ n) × (n ≤ k + 1)
  noted_within n among = elim (or_cases (is_among numbers n) (eqb (k + 1) n) (sym (among_push numbers (k + 1) n) ∙ among)) [
    | inl was ↦ (let w = h.within n was in let high = w.1 in (w.0, omega arith))
    | inr new ↦ (let same = eqb-true (k + 1) n new in (omega arith, omega arith))
  ]

  set_noted : IsPrepared event position (before v) → AreSet before after event position (k + 1) (numbers ++ (k + 1) ∷ []) (slice_set xs k v)
  set_noted here = record {
    rising = rising_push numbers (k + 1) h.rising (λ m among. (let high = (h.within m among).1 in omega arith));
    within = noted_within;
    named = λ j p less at among. elim (cases_lt j k) [
      | inl low ↦ h.named j p low (sym (read_other xs k j v (λ same. omega arith)) ∙ at) (was_among j low among)
      | inr high ↦ (let same : j ≡ k = omega arith in subst (λ z. IsPrepared event position (before z)) (sym (read_there xs k v p (subst (λ i. slice_get (slice_set xs k v) i ≡ Some p) same at))) here)
    ];
    others = λ j p less at among. elim (cases_lt j k) [
      | inl low ↦ h.others j p low (sym (read_other xs k j v (λ same. omega arith)) ∙ at) (was_other j among)
      | inr high ↦ (
          let same : k + 1 ≡ j + 1 = omega arith in
          absurd (false≢true (sym among ∙ (among_push numbers (k + 1) (j + 1) ∙ or_right (is_among numbers (j + 1)) (eqb (k + 1) (j + 1)) (eq-eqb (k + 1) (j + 1) same))))
          )
    ];
  }

  set_no_op : IsNoOpFor event position (before v) (after v) → AreSet before after event position (k + 1) numbers (slice_set xs k v)
  set_no_op here = record {
    rising = h.rising;
    within = λ n among. (let w = h.within n among in let high = w.1 in (w.0, omega arith));
    named = λ j p less at among. elim (cases_lt j k) [
      | inl low ↦ h.named j p low (sym (read_other xs k j v (λ same. omega arith)) ∙ at) among
      | inr high ↦ (let over = (h.within (j + 1) among).1 in absurd (omega arith))
    ];
    others = λ j p less at among. elim (cases_lt j k) [
      | inl low ↦ h.others j p low (sym (read_other xs k j v (λ same. omega arith)) ∙ at) among
      | inr high ↦ (let same : j ≡ k = omega arith in subst (λ z. IsNoOpFor event position (before z) (after z)) (sym (read_there xs k v p (subst (λ i. slice_get (slice_set xs k v) i ≡ Some p) same at))) here)
    ];
  }

  pub set_next : (more : List ℕ) → IsNoted event position (k + 1) (before v) (after v) numbers more → AreSet before after event position (k + 1) more (slice_set xs k v)
  set_next more (inl noted) = subst (λ ns. AreSet before after event position (k + 1) ns (slice_set xs k v)) (sym noted.1) (set_noted noted.0)
  set_next more (inr no_op) = subst (λ ns. AreSet before after event position (k + 1) ns (slice_set xs k v)) (sym no_op.1) (set_no_op no_op.0)
