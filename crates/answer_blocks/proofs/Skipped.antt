-- Queries that have no answer at the position: no line and no row is theirs.
use Rattle.std.proofs.Common.{◌≡◌, ℕ, zero, suc, ◌+◌, ◌-◌, ◌<◌, ◌≤◌, inl, inr, Bool, true, false, List, [], ◌∷◌, ◌++◌, length, take, Some, slice_get, slice_index_or, refl, sym, ◌∙◌, ap, subst, arith, add-one}
use Rattle.std.proofs.lemmas.Bool.{cases_lt}
use Rattle.std.proofs.lemmas.List.{append-nil}
use Rattle.stream_schema.specs.declared.Event.{Event}
use Rattle.cel_terms.specs.declared.Query.{Query}
use Rattle.cel_terms.specs.Answers.{AreAnswersAt}
use Rattle.query_engine.proofs.Named.{among_at, found_at}
use Rattle.query_engine.specs.Engine.{EngineState, StandsFor}
use Rattle.query_engine.specs.Running.{is_among, AreAnswering}
use Rattle.answer_text.specs.declared.Order.{Order}
use Rattle.answer_text.specs.OutputRows.{Row}
use Rattle.answer_blocks.specs.Blocks.{HasBlocks}
use Rattle.answer_blocks.specs.RowSteps.{HasRowsAt}
use Rattle.answer_blocks.proofs.Joined.{blocks_more, no_block}
use Rattle.answer_blocks.proofs.Counting.{rows_more, no_rows_of}

-- how many queries are done before the number at this place: up to that of the place before
abbrev pub done_to : List ℕ → ℕ → ℕ
done_to numbers i = slice_index_or (0 ∷ numbers) i 0

-- The number at a place: those between it and the one before are not among the numbers.
pub record IsNext (engine : EngineState) (numbers : List ℕ) (i n : ℕ) : Type 0 where
  pub low : 1 ≤ n
  pub high : n ≤ length engine.queries
  pub after : done_to numbers i ≤ n - 1
  pub next : done_to numbers (i + 1) ≡ n - 1 + 1
  pub between : (k : ℕ) → done_to numbers i ≤ k → k < n - 1 → is_among numbers (k + 1) ≡ false

module _ (order : Order) (engine : EngineState) (numbers : List ℕ) (are : AreAnswering engine numbers) where
  -- an earlier number is not above the last one
  behind : (i j : ℕ) → j < i → i ≤ length numbers → slice_index_or numbers j 0 ≤ done_to numbers i
  behind zero j less within = absurd (omega arith)
  behind (suc i) j less within = elim (cases_lt j i) [
    | inl low ↦ (let r = are.rising j i low (omega arith) in omega arith)
    | inr high ↦ (let same : j ≡ i = omega arith in let e = ap (λ z. slice_index_or numbers z 0) same in omega arith)
  ]

  done_rises : (i : ℕ) → i < length numbers → done_to numbers i < slice_index_or numbers i 0
  done_rises zero inside = (are.within (slice_index_or numbers 0 0) (among_at numbers 0 inside)).0
  done_rises (suc i) inside = are.rising i (suc i) (omega arith) inside

  next_to : (i : ℕ) → done_to numbers (i + 1) ≡ slice_index_or numbers i 0
  next_to i = rw add-one refl

  out : (k : ℕ) → (is_among numbers (k + 1) ≡ true → ⊥) → is_among numbers (k + 1) ≡ false
  out k not = by (is_among numbers (k + 1)) refl
    where
      by : (b : Bool) → is_among numbers (k + 1) ≡ b → is_among numbers (k + 1) ≡ false
      by false e = e
      by true e = absurd (not e)

  pub is_next : (i n : ℕ) → i < length numbers → n ≡ slice_index_or numbers i 0 → IsNext engine numbers i n
  is_next i n inside is =
      let w = are.within (slice_index_or numbers i 0) (among_at numbers i inside) in
      let low = w.0 in
      let high = w.1 in
      let rises = done_rises i inside in
      let next = next_to i in
      record {
        low = omega arith;
        high = omega arith;
        after = omega arith;
        next = omega arith;
        between = λ k from less. out k (λ among.
            let f = found_at numbers (k + 1) among in
            let at = f.2 in
            let within = f.1 in
            elim (cases_lt f.0 i) [
              | inl before ↦ (let b = behind i f.0 before (omega arith) in omega arith)
              | inr later ↦ elim (cases_lt i f.0) [
                | inl over ↦ (let r = are.rising i f.0 over within in omega arith)
                | inr same ↦ (let j : f.0 ≡ i = omega arith in let e = ap (λ z. slice_index_or numbers z 0) j in omega arith)
              ]
            ]);
      }

  pub done_within : (i : ℕ) → i ≤ length numbers → done_to numbers i ≤ length engine.queries
  done_within zero le = omega arith
  done_within (suc i) le = (are.within (slice_index_or numbers i 0) (among_at numbers i (omega arith))).1

  -- past the last number none is left
  pub none_left : (i k : ℕ) → length numbers ≤ i → i ≤ length numbers → done_to numbers i ≤ k → is_among numbers (k + 1) ≡ false
  none_left i k end within from = out k (λ among.
      let f = found_at numbers (k + 1) among in
      let at = f.2 in
      let inside = f.1 in
      let b = behind i f.0 (omega arith) within in
      omega arith)

  -- a query that is not among them has no answer
  none_at : (k : ℕ) → is_among numbers (k + 1) ≡ false → (events : List Event) (q : Query) → StandsFor engine events → slice_get engine.queries (k + 1 - 1) ≡ Some q → AreAnswersAt engine.schema q events (length events - 1) []
  none_at k out events q stands at = are.others k q events (subst (λ j. slice_get engine.queries j ≡ Some q) (omega arith) at) out stands

  skip_block : (P : List ℕ → Type 0) (k : ℕ) → k < length engine.queries → is_among numbers (k + 1) ≡ false → HasBlocks order engine (take k engine.queries) P → HasBlocks order engine (take (k + 1) engine.queries) P
  skip_block P k inside out h =
      blocks_more order engine P (λ back. back ≡ []) P k inside h (no_block order engine (k + 1) (λ back. back ≡ []) (none_at k out) refl)
      (λ front back p none. subst P (sym (ap (λ b. front ++ b) none ∙ append-nil front)) p)

  skip_some_blocks : (P : List ℕ → Type 0) (from more : ℕ) → from + more ≤ length engine.queries → ((k : ℕ) → from ≤ k → k < from + more → is_among numbers (k + 1) ≡ false) → HasBlocks order engine (take from engine.queries) P → HasBlocks order engine (take (from + more) engine.queries) P
  skip_some_blocks P from zero le none h = subst (λ n. HasBlocks order engine (take n engine.queries) P) (omega arith) h
  skip_some_blocks P from (suc more) le none h =
      subst (λ n. HasBlocks order engine (take n engine.queries) P) (omega arith)
      (skip_block P (from + more) (omega arith) (none (from + more) (omega arith) (omega arith)) (skip_some_blocks P from more (omega arith) (λ k low high. none k low (omega arith)) h))

  -- the blocks up to one are those up to a later one, where those between have no answer
  pub skip_blocks : (P : List ℕ → Type 0) (from to : ℕ) → from ≤ to → to ≤ length engine.queries → ((k : ℕ) → from ≤ k → k < to → is_among numbers (k + 1) ≡ false) → HasBlocks order engine (take from engine.queries) P → HasBlocks order engine (take to engine.queries) P
  skip_blocks P from to low high none h =
      let e : from + (to - from) ≡ to = omega arith in
      subst (λ n. HasBlocks order engine (take n engine.queries) P) e
      (skip_some_blocks P from (to - from) (omega arith) (λ k from_k less. none k from_k (omega arith)) h)

  module _ (P : ℕ → List Row → Type 0) (grows : (k : ℕ) (rows : List Row) → P k rows → P (k + 1) rows) where
    skip_row : (k : ℕ) → k < length engine.queries → is_among numbers (k + 1) ≡ false → HasRowsAt order engine (take k engine.queries) (P k) → HasRowsAt order engine (take (k + 1) engine.queries) (P (k + 1))
    skip_row k inside out h =
        rows_more order engine (P k) (λ back. back ≡ []) (P (k + 1)) k inside h (no_rows_of order engine (k + 1) (λ back. back ≡ []) (none_at k out) refl)
        (λ front back p none. subst (P (k + 1)) (sym (ap (λ b. front ++ b) none ∙ append-nil front)) (grows k front p))

    skip_some_rows : (from more : ℕ) → from + more ≤ length engine.queries → ((k : ℕ) → from ≤ k → k < from + more → is_among numbers (k + 1) ≡ false) → HasRowsAt order engine (take from engine.queries) (P from) → HasRowsAt order engine (take (from + more) engine.queries) (P (from + more))
    skip_some_rows from zero le none h = subst (λ n. HasRowsAt order engine (take n engine.queries) (P n)) (omega arith) h
    skip_some_rows from (suc more) le none h =
        subst (λ n. HasRowsAt order engine (take n engine.queries) (P n)) (omega arith)
        (skip_row (from + more) (omega arith) (none (from + more) (omega arith) (omega arith)) (skip_some_rows from more (omega arith) (λ k low high. none k low (omega arith)) h))

    pub skip_rows : (from to : ℕ) → from ≤ to → to ≤ length engine.queries → ((k : ℕ) → from ≤ k → k < to → is_among numbers (k + 1) ≡ false) → HasRowsAt order engine (take from engine.queries) (P from) → HasRowsAt order engine (take to engine.queries) (P to)
    skip_rows from to low high none h =
        let e : from + (to - from) ≡ to = omega arith in
        subst (λ n. HasRowsAt order engine (take n engine.queries) (P n)) e
        (skip_some_rows from (to - from) (omega arith) (λ k from_k less. none k from_k (omega arith)) h)
