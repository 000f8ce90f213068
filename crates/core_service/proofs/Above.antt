-- The first of some rising numbers that is above another one, and the queries before it.
use Rattle.std.proofs.Common.{◌≡◌, ℕ, ◌+◌, ◌-◌, ◌<◌, ◌≤◌, inl, inr, Bool, true, false, List, [], length, Some, refl, ap, subst, arith}
use Rattle.std.specs.Prelude.{slice_get, slice_index_or}
use Rattle.std.proofs.lemmas.Bool.{cases_lt}
use Rattle.query_engine.proofs.Named.{among_at, found_at}
use Rattle.stream_schema.specs.declared.Event.{Event}
use Rattle.cel_terms.specs.declared.Query.{Query}
use Rattle.cel_terms.specs.Answers.{AreAnswersAt}
use Rattle.query_engine.specs.Engine.{EngineState, StandsFor}
use Rattle.query_engine.specs.Running.{is_among, AreAnswering}
use Rattle.core_service.specs.Answering.{HaveNoAnswer, IsNextQuery}

module _ (engine : EngineState) (numbers : List ℕ) (are : AreAnswering engine numbers) (low place : ℕ) (below : (i : ℕ) → i < place → slice_index_or numbers i 0 ≤ low) where
  out : (k : ℕ) → (is_among numbers (k + 1) ≡ true → ⊥) → is_among numbers (k + 1) ≡ false
  out k not = by (is_among numbers (k + 1)) refl
    where
      by : (b : Bool) → is_among numbers (k + 1) ≡ b → is_among numbers (k + 1) ≡ false
      by false e = e
      by true e = absurd (not e)

  -- the queries between are not named
  none_between : (upto : ℕ) → ((i : ℕ) → place ≤ i → i < length numbers → upto ≤ slice_index_or numbers i 0 - 1) → HaveNoAnswer engine low upto
  none_between upto above = record {
    none = λ k q events from less at stands. are.others k q events at (out k (λ among.
        let f = found_at numbers (k + 1) among in
        let is = f.2 in
        let inside = f.1 in
        elim (cases_lt f.0 place) [
          | inl before ↦ (let b = below f.0 before in omega arith)
          | inr later ↦ (let a = above f.0 later inside in omega arith)
        ])) stands;
  }

  -- a number stands there
  pub next_at : (n : ℕ) → place < length numbers → n ≡ slice_index_or numbers place 0 → low < n → IsNextQuery engine low n
  next_at n inside is high =
      let w = are.within (slice_index_or numbers place 0) (among_at numbers place inside) in
      let one = w.0 in
      let most = w.1 in
      record {
        above = high;
        within = omega arith;
        between = none_between (n - 1) (λ i from within. elim (cases_lt place i) [
          | inl after ↦ (let r = are.rising place i after within in omega arith)
          | inr same ↦ (let e : i ≡ place = omega arith in let v = ap (λ z. slice_index_or numbers z 0) e in omega arith)
        ]);
      }

  -- none stands there
  pub none_at : length numbers ≤ place → HaveNoAnswer engine low (length engine.queries)
  none_at past = none_between (length engine.queries) (λ i from within. absurd (omega arith))

-- the queries of the first so many numbers have no answer
pub record NoneOf (engine : EngineState) (numbers : List ℕ) (count : ℕ) : Type 0 where
  pub none : (i : ℕ) (q : Query) (events : List Event) → i < count → StandsFor engine events → slice_get engine.queries (slice_index_or numbers i 0 - 1) ≡ Some q → AreAnswersAt engine.schema q events (length events - 1) []

pub none_yet : (engine : EngineState) (numbers : List ℕ) → NoneOf engine numbers 0
none_yet engine numbers = record { none = λ i q events less stands at. absurd (omega arith) }

-- nor has the query of the next one
pub none_more : (engine : EngineState) (numbers : List ℕ) (count : ℕ) → NoneOf engine numbers count →
    ((events : List Event) (q : Query) → StandsFor engine events → slice_get engine.queries (slice_index_or numbers count 0 - 1) ≡ Some q → AreAnswersAt engine.schema q events (length events - 1) []) →
    NoneOf engine numbers (count + 1)
none_more engine numbers count h one = record {
  none = λ i q events less stands at. elim (cases_lt i count) [
    | inl before ↦ h.none i q events before stands at
    | inr last ↦ (let same : i ≡ count = omega arith in one events q stands (subst (λ (k : ℕ). slice_get engine.queries (slice_index_or numbers k 0 - 1) ≡ Some q) same at))
  ];
}

-- nor any other query
pub none_at_all : (engine : EngineState) (numbers : List ℕ) (count : ℕ) → AreAnswering engine numbers → length numbers ≤ count → NoneOf engine numbers count → HaveNoAnswer engine 0 (length engine.queries)
none_at_all engine numbers count are past h = record {
  none = λ k q events from less at stands. by (is_among numbers (k + 1)) k refl q events at stands;
}
  where
    by : (b : Bool) (k : ℕ) → is_among numbers (k + 1) ≡ b → (q : Query) (events : List Event) → slice_get engine.queries k ≡ Some q → StandsFor engine events → AreAnswersAt engine.schema q events (length events - 1) []
    by false k among q events at stands = are.others k q events at among stands
    by true k among q events at stands =
        let f = found_at numbers (k + 1) among in
        let is = f.2 in
        let place : k ≡ slice_index_or numbers f.0 0 - 1 = omega arith in
        let inside = f.1 in
        h.none f.0 q events (omega arith) stands (subst (λ (n : ℕ). slice_get engine.queries n ≡ Some q) place at)
