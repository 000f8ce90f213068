-- Numbers that name queries: those that may have an answer, or all.
use Rattle.std.proofs.Common.{◌≡◌, refl, sym, ap, subst, ◌∙◌, ℕ, ◌+◌, ◌-◌, ◌<◌, ◌≤◌, inl, inr, Bool, true, false, ◌||◌, eqb, List, [], ◌∷◌, ◌++◌, length, map, Some, slice_get, slice_index_or, arith}
use Rattle.std.proofs.lemmas.Bool.{cases_lt, eqb-true, eq-eqb, false≢true, or_cases, or_right}
use Rattle.std.proofs.lemmas.Option.{slice_get_within, slice_get-get_or}
use Rattle.stream_schema.specs.Types.{Declared}
use Rattle.cel_terms.specs.declared.Query.{Query}
use Rattle.all_or_none.specs.Phases.{Phase, is_among, MayAnswer}
use Rattle.all_or_none.proofs.Numbers.{among_push, rising_push}
pub use Rattle.all_or_none.proofs.Numbers.{among_at, found_at}
use Rattle.query_engine.specs.Engine.{EngineState, IsNumber, count_of}
use Rattle.query_engine.specs.Running.{AreNamed, IsNoted, AreAnswering}
use Rattle.query_engine.proofs.Standing.{state, mapped, length_map}
use Rattle.query_engine.proofs.Asking.{query_state_no_answer}

-- no element yet
pub named_none : {A : Type 0} (Others : A → Type 0) (xs : List A) (numbers : List ℕ) → numbers ≡ [] → AreNamed Others 0 xs numbers
named_none Others xs numbers none = subst (AreNamed Others 0 xs) (sym none) (record {
  rising = λ i j less within. absurd (omega arith);
  within = λ n among. absurd (false≢true among);
  others = λ k x less at among. absurd (omega arith);
})

both_false : (a b : Bool) → (a || b) ≡ false → a ≡ false
both_false true b e = e
both_false false b e = refl

-- The element that comes next is named.
module _ {A : Type 0} (Others : A → Type 0) (k : ℕ) (xs : List A) (numbers : List ℕ) (h : AreNamed Others k xs numbers) where
  named_push : AreNamed Others (k + 1) xs (numbers ++ (k + 1) ∷ [])
  named_push = record {
    rising = rising_push numbers (k + 1) h.rising (λ m among. (let high = (h.within m among).1 in omega arith));
    within = λ n among. elim (or_cases (is_among numbers n) (eqb (k + 1) n) (sym (among_push numbers (k + 1) n) ∙ among)) [
      | inl was ↦ (let w = h.within n was in let high = w.1 in (w.0, omega arith))
      | inr new ↦ (let same = eqb-true (k + 1) n new in (omega arith, omega arith))
    ];
    others = λ j y less at among. elim (cases_lt j k) [
      | inl low ↦ h.others j y low at (both_false (is_among numbers (j + 1)) (eqb (k + 1) (j + 1)) (sym (among_push numbers (k + 1) (j + 1)) ∙ among))
      | inr high ↦ (
          let same : k + 1 ≡ j + 1 = omega arith in
          absurd (false≢true (sym among ∙ (among_push numbers (k + 1) (j + 1) ∙ or_right (is_among numbers (j + 1)) (eqb (k + 1) (j + 1)) (eq-eqb (k + 1) (j + 1) same))))
          )
    ];
  }

  pub named_one_more : (more : List ℕ) → more ≡ numbers ++ (k + 1) ∷ [] → AreNamed Others (k + 1) xs more
  named_one_more more put = subst (AreNamed Others (k + 1) xs) (sym put) named_push

-- names of elements are those of what these are mapped to
pub named_map : {A B : Type 0} (P : A → Type 0) (Q : B → Type 0) (f : A → B) (xs : List A) (numbers : List ℕ) → ((x : A) → P x → Q (f x)) → AreNamed P (length xs) xs numbers → AreNamed Q (length (map f xs)) (map f xs) numbers
named_map P Q f xs numbers so h = record {
  rising = h.rising;
  within = λ n among. (let w = h.within n among in let high = w.1 in let long = length_map f xs in (w.0, omega arith));
  others = λ k y less at among. (
      let m = mapped f xs k y at in
      subst Q m.2 (so m.0 (h.others k m.0 (slice_get_within xs k m.0 m.1) m.1 among))
      );
}

-- of all queries there is one for each query state
pub noted_first : (query_states seen_query_states : List Phase) (touched all : List ℕ) → AreNamed (λ (p : Phase). ⊥) (length query_states) query_states all → IsNoted (map (λ (p : Phase). p.query) query_states) seen_query_states false touched all
noted_first query_states seen_query_states touched all every = record {
  answering = λ told. absurd (false≢true told);
  every = named_map (λ (p : Phase). ⊥) (λ (q : Query). ⊥) (λ (p : Phase). p.query) query_states all (λ p no. no) every;
}

-- what is noted of the same queries stays
pub noted_same : (old new : List Query) (query_states later : List Phase) (told now : Bool) (touched more all : List ℕ) → new ≡ old → IsNoted old query_states told touched all → (now ≡ true → MayAnswer more later) → IsNoted new later now more all
noted_same old new query_states later told now touched more all is h answering = record {
  answering = answering;
  every = subst (λ qs. AreNamed (λ (q : Query). ⊥) (length qs) qs all) (sym is) h.every;
}

-- The numbers are of queries.
is_number : (schema : Declared) (count : ℕ) (query_states : List Phase) (peaks : List ℕ) (s : EngineState) (n : ℕ) → state schema count query_states peaks ≡ s → 1 ≤ n → n ≤ length query_states → IsNumber s n
is_number schema count query_states peaks s n is low high =
    let many = ap (λ (t : EngineState). length t.queries) is in
    let same = length_map (λ (p : Phase). p.query) query_states in
    (omega arith, omega arith)

query_state_here : (query_states : List Phase) (k : ℕ) (p : Phase) → slice_get query_states k ≡ Some p → p ≡ slice_index_or query_states k p
query_state_here query_states k p at = let both = sym at ∙ slice_get-get_or query_states k p (slice_get_within query_states k p at) in cc

-- those of the query states for which the last event was not a no-op
pub told_answering : (schema : Declared) (count : ℕ) (query_states : List Phase) (peaks : List ℕ) (s : EngineState) (numbers : List ℕ) → state schema count query_states peaks ≡ s → 0 < count_of s → MayAnswer numbers query_states → AreAnswering s numbers
told_answering schema count query_states peaks s numbers is some h = record {
  rising = h.rising;
  within = λ n among. (let w = h.within n among in is_number schema count query_states peaks s n is w.0 w.1);
  others = λ k q events at among stands. (
      let m = mapped (λ (p : Phase). p.query) query_states k q (subst (λ (t : EngineState). slice_get t.queries k ≡ Some q) (sym is) at) in
      let inside = slice_get_within query_states k m.0 m.1 in
      let place : k ≡ k + 1 - 1 = omega arith in
      query_state_no_answer schema count query_states peaks s (k + 1) m.0 is some (is_number schema count query_states peaks s (k + 1) is (omega arith) (omega arith))
      (subst (λ j. m.0 ≡ slice_index_or query_states j m.0) place (query_state_here query_states k m.0 m.1))
      (h.others k m.0 m.1 among) events q stands (subst (λ j. slice_get s.queries j ≡ Some q) place at)
      );
}

-- all numbers
pub all_answering : (schema : Declared) (count : ℕ) (query_states : List Phase) (peaks : List ℕ) (s : EngineState) (numbers : List ℕ) → state schema count query_states peaks ≡ s → AreNamed (λ (q : Query). ⊥) (length (map (λ (p : Phase). p.query) query_states)) (map (λ (p : Phase). p.query) query_states) numbers → AreAnswering s numbers
all_answering schema count query_states peaks s numbers is h = record {
  rising = h.rising;
  within = λ n among. (let w = h.within n among in let high = w.1 in let long = length_map (λ (p : Phase). p.query) query_states in is_number schema count query_states peaks s n is w.0 (omega arith));
  others = λ k q events at among stands. (
      let here = subst (λ (t : EngineState). slice_get t.queries k ≡ Some q) (sym is) at in
      absurd (h.others k q (slice_get_within (map (λ (p : Phase). p.query) query_states) k q here) here among)
      );
}
