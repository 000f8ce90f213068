-- How types are marked, one list after the other.
use Rattle.std.proofs.Common.{◌≡◌, refl, sym, ap, ◌∙◌, ℕ, ◌<◌, ◌≤◌, ◌+◌, ◌==◌, Bool, true, false, ◌||◌, inl, inr, List, length, take, get_or, slice_index_or, slice_set, arith}
use Rattle.std.specs.List.{list_any}
use Rattle.std.proofs.Math.Bool.{or_assoc}
use Rattle.std.proofs.lemmas.Bool.{cases_eq, eqb-true, eq-eqb, or_right}
use Rattle.std.proofs.lemmas.List.{length-set, get_or-set_same, get_or-set_other}
use Rattle.std.proofs.lemmas.List.Folds.{list_any_more}
use Rattle.query_state.specs.QueryStates.{AreMarked}

or_none : (b : Bool) → b ≡ (b || false)
or_none true = refl
or_none false = refl

-- nothing was marked
pub marked_none : (told : ℕ → Bool) (table : List Bool) → ((ty : ℕ) → told ty ≡ false) → AreMarked told table table
marked_none told table none = record { count = refl; each = λ ty less. or_none (slice_index_or table ty false) ∙ ap (λ b. slice_index_or table ty false || b) (sym (none ty)) }

-- the test tells the same
pub marked_alike : (told same : ℕ → Bool) (old new : List Bool) → ((ty : ℕ) → told ty ≡ same ty) → AreMarked told old new → AreMarked same old new
marked_alike told same old new alike m = record { count = m.count; each = λ ty less. m.each ty less ∙ ap (λ b. slice_index_or old ty false || b) (alike ty) }

-- what the next element tells was marked
pub marked_next : {A : Type 0} (tells : A → ℕ → Bool) (xs : List A) (k : ℕ) (x : A) (old mid new : List Bool) → k < length xs → x ≡ get_or xs k x → AreMarked (λ ty. list_any (λ y. tells y ty) (take k xs)) old mid → AreMarked (tells x) mid new → AreMarked (λ ty. list_any (λ y. tells y ty) (take (k + 1) xs)) old new
marked_next tells xs k x old mid new inside at done here = record {
  count = here.count ∙ done.count;
  each = λ ty less.
      let any = list_any (λ y. tells y ty) (take k xs) in
      let was = slice_index_or old ty false in
      let more = list_any_more (λ y. tells y ty) xs k x inside in
      here.each ty (let e = done.count in omega arith)
      ∙ ap (λ b. b || tells x ty) (done.each ty less)
      ∙ or_assoc was any (tells x ty)
      ∙ ap (λ b. was || b) (ap (λ y. any || tells y ty) at ∙ sym more);
}

unequal : (a b : ℕ) → (a ≡ b → ⊥) → (test : Bool) → (a == b) ≡ test → (a == b) ≡ false
unequal a b other false e = e
unequal a b other true e = absurd (other (eqb-true a b e))

-- one type was marked
pub marked_one : (table : List Bool) (ty : ℕ) → ty < length table → AreMarked (λ t. ty == t) table (slice_set table ty true)
marked_one table ty inside = record {
  count = length-set table ty true;
  each = λ t less. elim (cases_eq t ty) [
    | inl same ↦ (
        let read : slice_index_or (slice_set table ty true) t false ≡ true = ap (λ i. slice_index_or (slice_set table ty true) i false) same ∙ get_or-set_same table ty true false inside in
        read ∙ sym (or_right (slice_index_or table t false) (ty == t) (eq-eqb ty t (sym same)))
        )
    | inr other ↦ get_or-set_other table ty t true false other ∙ (or_none (slice_index_or table t false) ∙ ap (λ b. slice_index_or table t false || b) (sym (unequal ty t (λ same. other (sym same)) (ty == t) refl)))
  ];
}

-- a type that the table has not
pub marked_beyond : (table : List Bool) (ty : ℕ) → length table ≤ ty → AreMarked (λ t. ty == t) table table
marked_beyond table ty beyond = record { count = refl; each = λ t less. or_none (slice_index_or table t false) ∙ ap (λ b. slice_index_or table t false || b) (sym (unequal ty t (λ same. omega arith) (ty == t) refl)) }
