-- The rows of one query are those of a text that has it alone.
use Rattle.std.proofs.Common.{◌≡◌, refl, sym, ap, ap₂, subst, ◌∙◌, ℕ, zero, suc, ◌+◌, ◌<◌, ◌==◌, cond, Bool, true, false, List, [], ◌∷◌, ◌++◌, map, length, Some, slice_get, arith}
use Rattle.std.specs.Prelude.{filter}
use Rattle.std.proofs.lemmas.List.{map-append, append-nil}
use Rattle.std.proofs.lemmas.List.Elements.{filter-append}
use Rattle.std.proofs.lemmas.Bool.Decides.{nat_tests}
use Rattle.stream_schema.specs.Types.{Declared}
use Rattle.stream_schema.specs.declared.Event.{Event}
use Rattle.cel_terms.specs.declared.Query.{Query}
use Rattle.cel_terms.specs.Answers.{Answer}
use Rattle.answer_text.specs.declared.Order.{Order}
use Rattle.answer_text.specs.OutputRows.{Row, row_at, AreRowsOf, AreRowsAt, AreFirstRows}
use Rattle.scaling_laws.specs.Alone.{of_first, rows_of_query, QueriesAnswerAlone}

in_two : (number : ℕ) (front rest : List Row) → rows_of_query number (front ++ rest) ≡ rows_of_query number front ++ rows_of_query number rest
in_two number front rest =
    ap (map of_first) (filter-append (λ (row : Row). row.number == number) front rest)
    ∙ map-append of_first (filter (λ (row : Row). row.number == number) front) (filter (λ (row : Row). row.number == number) rest)

-- all of a query's rows are of its number,
own_rows : (number end : ℕ) (answers : List Answer) → rows_of_query number (map (row_at number end) answers) ≡ map (row_at 1 end) answers
own_rows number end [] = refl
own_rows number end (a ∷ rest) =
    let same : (number == number) ≡ true = grind (arith, nat_tests) in
    let others = filter (λ (row : Row). row.number == number) (map (row_at number end) rest) in
    ap (λ (b : Bool). map of_first (cond b (row_at number end a ∷ others) others)) same
    ∙ ap (λ (rows : List Row). row_at 1 end a ∷ rows) (own_rows number end rest)

-- and none of another.
no_rows : (k number end : ℕ) (answers : List Answer) → (number ≡ k → ⊥) → rows_of_query k (map (row_at number end) answers) ≡ []
no_rows k number end [] apart = refl
no_rows k number end (a ∷ rest) apart =
    let other : (number == k) ≡ false = grind (arith, nat_tests) in
    let others = filter (λ (row : Row). row.number == k) (map (row_at number end) rest) in
    ap (λ (b : Bool). map of_first (cond b (row_at number end a ∷ others) others)) other ∙ no_rows k number end rest apart

none_at : (order : Order) (schema : Declared) (k number : ℕ) (queries : List Query) (events : List Event) (end : ℕ) (rows : List Row) → k < number → AreRowsAt order schema number queries events end rows → rows_of_query k rows ≡ []
none_at order schema k number [] events end rows less h = ap (rows_of_query k) h
none_at order schema k number (q ∷ queries) events end rows less h =
    ap (rows_of_query k) h.4 ∙ (in_two k h.0 h.1
    ∙ ap₂ (λ (xs ys : List Row). xs ++ ys)
    (ap (rows_of_query k) h.2.are ∙ no_rows k number end h.2.answers (λ same. let s : k < k = omega arith in omega arith))
    (none_at order schema k (number + 1) queries events end h.1 (omega arith) h.3))

as_first : (order : Order) (schema : Declared) (number : ℕ) (q : Query) (events : List Event) (end : ℕ) (rows : List Row) → AreRowsOf order schema number q events end rows → AreRowsOf order schema 1 q events end (rows_of_query number rows)
as_first order schema number q events end rows h = record {
  answers = h.answers;
  distinct = h.distinct;
  right = h.right;
  enough = h.enough;
  ordered = h.ordered;
  are = ap (rows_of_query number) h.are ∙ own_rows number end h.answers;
}

-- The query's rows at a position.
rows_at : (order : Order) (schema : Declared) (number : ℕ) (queries : List Query) (events : List Event) (end : ℕ) (rows : List Row) (place : ℕ) (q : Query) → slice_get queries place ≡ Some q → AreRowsAt order schema number queries events end rows → AreRowsOf order schema 1 q events end (rows_of_query (number + place) rows)
rows_at order schema number [] events end rows place q at h = absurd cc
rows_at order schema number (q' ∷ queries) events end rows zero q at h =
    let same : q' ≡ q = cc in
    let here : number + zero ≡ number = omega arith in
    let first = as_first order schema number q' events end h.0 h.2 in
    let are : rows_of_query number rows ≡ rows_of_query number h.0 =
    ap (rows_of_query number) h.4 ∙ (in_two number h.0 h.1 ∙ (ap (λ (ys : List Row). rows_of_query number h.0 ++ ys) (none_at order schema number (number + 1) queries events end h.1 (omega arith) h.3) ∙ append-nil (rows_of_query number h.0))) in
    subst (λ (x : Query). AreRowsOf order schema 1 x events end (rows_of_query (number + zero) rows)) same
    (subst (λ (k : ℕ). AreRowsOf order schema 1 q' events end (rows_of_query k rows)) (sym here)
    (subst (AreRowsOf order schema 1 q' events end) (sym are) first))
rows_at order schema number (q' ∷ queries) events end rows (suc place) q at h =
    let k : number + suc place ≡ (number + 1) + place = omega arith in
    let rest = rows_at order schema (number + 1) queries events end h.1 place q at h.3 in
    let are : rows_of_query (number + suc place) rows ≡ rows_of_query (number + suc place) h.1 =
    ap (rows_of_query (number + suc place)) h.4 ∙ (in_two (number + suc place) h.0 h.1
    ∙ ap (λ (xs : List Row). xs ++ rows_of_query (number + suc place) h.1)
    (ap (rows_of_query (number + suc place)) h.2.are ∙ no_rows (number + suc place) number end h.2.answers (λ same. omega arith))) in
    subst (AreRowsOf order schema 1 q events end) (sym are)
    (subst (λ (n : ℕ). AreRowsOf order schema 1 q events end (rows_of_query n h.1)) (sym k) rest)

first_rows : (n : ℕ) (order : Order) (schema : Declared) (queries : List Query) (events : List Event) (rows : List Row) (place : ℕ) (q : Query) → slice_get queries place ≡ Some q → AreFirstRows n order schema queries events rows → AreFirstRows n order schema (q ∷ []) events (rows_of_query (place + 1) rows)
first_rows zero order schema queries events rows place q at h = ap (rows_of_query (place + 1)) h
first_rows (suc n) order schema queries events rows place q at h =
    let k : 1 + place ≡ place + 1 = omega arith in
    let here = subst (λ (m : ℕ). AreRowsOf order schema 1 q events n (rows_of_query m h.1)) k (rows_at order schema 1 queries events n h.1 place q at h.3) in (
      rows_of_query (place + 1) h.0,
      rows_of_query (place + 1) h.1,
      first_rows n order schema queries events h.0 place q at h.2,
      (rows_of_query (place + 1) h.1, [], here, refl, sym (append-nil (rows_of_query (place + 1) h.1))),
      ap (rows_of_query (place + 1)) h.4 ∙ in_two (place + 1) h.0 h.1,
    )

pub answers_alone : QueriesAnswerAlone
answers_alone order schema queries events rows place q at h = first_rows (length events) order schema queries events rows place q at h
