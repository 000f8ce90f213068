-- What is known of query states, as those that the event may change commit one after the other.
use Rattle.std.proofs.Common.{◌≡◌, ◌≢◌, refl, sym, ap, subst, ◌∙◌, ℕ, ◌+◌, ◌-◌, ◌<◌, ◌≤◌, inl, inr, Bool, true, false, not, ◌||◌, ◌&&◌, eqb, List, [], length, take, Some, slice_get, slice_index_or, slice_set, arith}
use Rattle.std.proofs.lemmas.Bool.{cases_eq, eqb-true, eq-eqb, false≢true, or_cases}
use Rattle.cer_base.specs.Bits.{has}
use Rattle.all_or_none.specs.declared.Activity.{Activity}
use Rattle.all_or_none.specs.Phases.{Phase, is_among, IsDormant, IsEmpty, IsLooked, AreLooked}
use Rattle.all_or_none.proofs.Numbers.{read_other, read_there, among_next}

and_none : (a b : Bool) → b ≡ false → (a && b) ≡ false
and_none true b e = e
and_none false b e = refl

-- what is not noted, and what is
pub told : (b : Bool) → not b ≡ false → b ≡ true
told true e = refl
told false e = absurd (false≢true (sym e))

pub untold : (b : Bool) → not b ≡ true → b ≡ false
untold true e = absurd (false≢true e)
untold false e = refl

-- what has no open match is dormant
pub empty_is_dormant : (phase : ℕ → Phase) → IsEmpty phase → IsDormant phase
empty_is_dormant phase h = record { passes = λ event position le idle can unread. h.passes event position le idle can (λ k. and_none _ _ (unread k)) }

pub looked_none : {P : Type 0} (phase : ℕ → P → Phase) (activity : Activity) (query_states : List P) → AreLooked phase [] activity activity query_states
looked_none phase activity query_states = record { rest = λ k p at among. absurd (false≢true among); empty = λ k p at among. absurd (false≢true among); within = λ k among. absurd (false≢true among); others = λ k among. (refl, refl); room = (refl, refl) }

neither : (a b : Bool) → (a || b) ≡ false → (a ≡ false) × (b ≡ false)
neither true b e = absurd (false≢true (sym e))
neither false b e = (refl, e)

-- the query state of the number that comes next
pub looked_next : {P : Type 0} (phase : ℕ → P → Phase) (numbers : List ℕ) (i n : ℕ) (before activity after : Activity) (query_states : List P) (v : P) → i < length numbers → n ≡ slice_index_or numbers i 0 → 1 ≤ n → IsLooked phase (n - 1) v activity after → AreLooked phase (take i numbers) before activity query_states → AreLooked phase (take (i + 1) numbers) before after (slice_set query_states (n - 1) v)
looked_next phase numbers i n before activity after query_states v inside here positive one h = record {
  rest = λ k p at among out. elim (cases_eq k (n - 1)) [
    | inl same ↦ subst (λ z. IsDormant (λ m. phase m z)) (sym (the_new k p same at)) (one.rest (ap (has after.active_queries) (sym same) ∙ out))
    | inr other ↦ h.rest k p (the_old k p other at) (was_among k other among) (sym (one.others k other).0 ∙ out)
  ];
  empty = λ k p at among out. elim (cases_eq k (n - 1)) [
    | inl same ↦ subst (λ z. IsEmpty (λ m. phase m z)) (sym (the_new k p same at)) (one.empty (ap (has after.open_queries) (sym same) ∙ out))
    | inr other ↦ h.empty k p (the_old k p other at) (was_among k other among) (sym (one.others k other).1 ∙ out)
  ];
  within = λ k among is. elim (cases_eq k (n - 1)) [
    | inl same ↦ ap (has after.open_queries) same ∙ one.within (ap (has after.active_queries) (sym same) ∙ is)
    | inr other ↦ (one.others k other).1 ∙ h.within k (was_among k other among) (sym (one.others k other).0 ∙ is)
  ];
  others = λ k among. (
      let both = neither (is_among (take i numbers) (k + 1)) (eqb n (k + 1)) (sym (joined (k + 1)) ∙ among) in
      let kept = one.others k (λ same. absurd (false≢true (sym both.1 ∙ eq-eqb n (k + 1) (omega arith)))) in
      let was = h.others k both.0 in
      (kept.0 ∙ was.0, kept.1 ∙ was.1)
      );
  room = (one.room.0 ∙ h.room.0, one.room.1 ∙ h.room.1);
}
  where
    joined : (m : ℕ) → is_among (take (i + 1) numbers) m ≡ (is_among (take i numbers) m || eqb n m)
    joined m = among_next numbers i m inside ∙ ap (λ x. is_among (take i numbers) m || eqb x m) (sym here)

    the_new : (k : ℕ) (p : _) → k ≡ n - 1 → slice_get (slice_set query_states (n - 1) v) k ≡ Some p → p ≡ v
    the_new k p same at = read_there query_states (n - 1) v p (subst (λ j. slice_get (slice_set query_states (n - 1) v) j ≡ Some p) same at)

    the_old : (k : ℕ) (p : _) → k ≢ n - 1 → slice_get (slice_set query_states (n - 1) v) k ≡ Some p → slice_get query_states k ≡ Some p
    the_old k p other at = sym (read_other query_states (n - 1) k v other) ∙ at

    was_among : (k : ℕ) → k ≢ n - 1 → is_among (take (i + 1) numbers) (k + 1) ≡ true → is_among (take i numbers) (k + 1) ≡ true
    was_among k other among = elim (or_cases (is_among (take i numbers) (k + 1)) (eqb n (k + 1)) (sym (joined (k + 1)) ∙ among)) [
      | inl was ↦ was
      | inr new ↦ absurd (other (let same = eqb-true n (k + 1) new in omega arith))
    ]
