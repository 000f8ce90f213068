-- Rows, and the lines that they stand for. For callers too.
use Rattle.std.proofs.Common.{◌≡◌, ℕ, zero, suc, ◌+◌, List, [], ◌∷◌, ◌++◌, length, map, Contains, inl, inr, refl, sym, ◌∙◌, ap, ap₂, subst, append_assoc, flat_map, arith}
use Rattle.std.proofs.lemmas.Grind.{flat_map-append}
use Rattle.std.proofs.lemmas.List.Elements.{Contains-append_cases}
use Rattle.std.proofs.lemmas.List.Folds.{flat_map-map}
use Rattle.stream_schema.specs.Types.{Declared}
use Rattle.stream_schema.specs.declared.Event.{Event}
use Rattle.cel_terms.specs.declared.Query.{Query}
use Rattle.cel_terms.specs.Answers.{Answer}
use Rattle.answer_text.specs.declared.Order.{Order}
use Rattle.answer_text.specs.Output.{line, IsBlock, AreBlocks, IsOutputOf}
use Rattle.answer_text.specs.OutputRows.{Row, row_line, lines_of, row_at, AreRowsOf, AreRowsAt, AreFirstRows}

-- the lines of rows after others
pub lines_both : (front rest : List Row) → lines_of (front ++ rest) ≡ lines_of front ++ lines_of rest
lines_both front rest = flat_map-append row_line front rest

-- the lines of a query's answers at a position
pub lines_at : (number end : ℕ) (answers : List Answer) → lines_of (map (row_at number end) answers) ≡ flat_map (line number end) answers
lines_at number end answers = flat_map-map row_line (row_at number end) answers

-- FROM ROWS TO LINES

pub block_of_rows : (order : Order) (schema : Declared) (number : ℕ) (q : Query) (events : List Event) (end : ℕ) (rows : List Row) → AreRowsOf order schema number q events end rows → IsBlock order schema number q events end (lines_of rows)
block_of_rows order schema number q events end rows h = record {
  answers = h.answers;
  distinct = h.distinct;
  right = h.right;
  enough = h.enough;
  ordered = h.ordered;
  written = ap lines_of h.are ∙ lines_at number end h.answers;
}

pub blocks_of_rows : (order : Order) (schema : Declared) (number : ℕ) (queries : List Query) (events : List Event) (end : ℕ) (rows : List Row) → AreRowsAt order schema number queries events end rows → AreBlocks order schema number queries events end (lines_of rows)
blocks_of_rows order schema number [] events end rows h = ap lines_of h
blocks_of_rows order schema number (q ∷ qs) events end rows h = (
  lines_of h.0,
  lines_of h.1,
  block_of_rows order schema number q events end h.0 h.2,
  blocks_of_rows order schema (number + 1) qs events end h.1 h.3,
  ap lines_of h.4 ∙ lines_both h.0 h.1,
)

pub output_of_rows : (n : ℕ) (order : Order) (schema : Declared) (queries : List Query) (events : List Event) (rows : List Row) → AreFirstRows n order schema queries events rows → IsOutputOf n order schema queries events (lines_of rows)
output_of_rows zero order schema queries events rows h = ap lines_of h
output_of_rows (suc n) order schema queries events rows h = (
  lines_of h.0,
  lines_of h.1,
  output_of_rows n order schema queries events h.0 h.2,
  blocks_of_rows order schema 1 queries events n h.1 h.3,
  ap lines_of h.4 ∙ lines_both h.0 h.1,
)

-- FROM LINES TO ROWS

pub rows_of_block : (order : Order) (schema : Declared) (number : ℕ) (q : Query) (events : List Event) (end : ℕ) (bytes : List ℕ) → IsBlock order schema number q events end bytes → (rows : List Row) × AreRowsOf order schema number q events end rows × (bytes ≡ lines_of rows)
rows_of_block order schema number q events end bytes h = (
  map (row_at number end) h.answers,
  record { answers = h.answers; distinct = h.distinct; right = h.right; enough = h.enough; ordered = h.ordered; are = refl },
  h.written ∙ sym (lines_at number end h.answers),
)

pub rows_of_blocks : (order : Order) (schema : Declared) (number : ℕ) (queries : List Query) (events : List Event) (end : ℕ) (bytes : List ℕ) → AreBlocks order schema number queries events end bytes → (rows : List Row) × AreRowsAt order schema number queries events end rows × (bytes ≡ lines_of rows)
rows_of_blocks order schema number [] events end bytes h = ([], refl, h)
rows_of_blocks order schema number (q ∷ qs) events end bytes h =
    let front = rows_of_block order schema number q events end h.0 h.2 in
    let rest = rows_of_blocks order schema (number + 1) qs events end h.1 h.3 in (
      front.0 ++ rest.0,
      (front.0, rest.0, front.1, rest.1, refl),
      h.4 ∙ ap₂ (λ (x y : List ℕ). x ++ y) front.2 rest.2 ∙ sym (lines_both front.0 rest.0),
    )

pub rows_of_output : (n : ℕ) (order : Order) (schema : Declared) (queries : List Query) (events : List Event) (bytes : List ℕ) → IsOutputOf n order schema queries events bytes → (rows : List Row) × AreFirstRows n order schema queries events rows × (bytes ≡ lines_of rows)
rows_of_output zero order schema queries events bytes h = ([], refl, h)
rows_of_output (suc n) order schema queries events bytes h =
    let front = rows_of_output n order schema queries events h.0 h.2 in
    let rest = rows_of_blocks order schema 1 queries events n h.1 h.3 in (
      front.0 ++ rest.0,
      (front.0, rest.0, front.1, rest.1, refl),
      h.4 ∙ ap₂ (λ (x y : List ℕ). x ++ y) front.2 rest.2 ∙ sym (lines_both front.0 rest.0),
    )

-- ROWS ONE AFTER ANOTHER

pub rows_append : (order : Order) (schema : Declared) (m n : ℕ) (xs ys : List Query) (events : List Event) (end : ℕ) (front back : List Row) → n ≡ m + length xs →
    AreRowsAt order schema m xs events end front → AreRowsAt order schema n ys events end back → AreRowsAt order schema m (xs ++ ys) events end (front ++ back)
rows_append order schema m n [] ys events end front back at h k =
    let same : n ≡ m = omega (arith, at) in
    subst (λ (l : List Row). AreRowsAt order schema m ys events end (l ++ back)) (sym h) (subst (λ (i : ℕ). AreRowsAt order schema i ys events end back) same k)
rows_append order schema m n (x ∷ xs) ys events end front back at h k =
    let next : n ≡ (m + 1) + length xs = omega (arith, at) in (
      h.0,
      h.1 ++ back,
      h.2,
      rows_append order schema (m + 1) n xs ys events end h.1 back next h.3 k,
      ap (λ (l : List Row). l ++ back) h.4 ∙ append_assoc h.0 h.1 back,
    )

-- each row at a position has it as its end
ends_mapped : (number end : ℕ) (answers : List Answer) (row : Row) → Contains (map (row_at number end) answers) row → row.end ≡ end
ends_mapped number end [] row has = absurd (let inside = has.1 in omega arith)
ends_mapped number end (a ∷ answers) row (zero, within, at) = sym (ap (λ (r : Row). r.end) at)
ends_mapped number end (a ∷ answers) row (suc k, within, at) = ends_mapped number end answers row (k, omega arith, at)

ends_of : (order : Order) (schema : Declared) (number : ℕ) (q : Query) (events : List Event) (end : ℕ) (rows : List Row) → AreRowsOf order schema number q events end rows → (row : Row) → Contains rows row → row.end ≡ end
ends_of order schema number q events end rows h row has = ends_mapped number end h.answers row (subst (λ (l : List Row). Contains l row) h.are has)

pub ends_at : (order : Order) (schema : Declared) (number : ℕ) (queries : List Query) (events : List Event) (end : ℕ) (rows : List Row) → AreRowsAt order schema number queries events end rows → (row : Row) → Contains rows row → row.end ≡ end
ends_at order schema number [] events end rows h row has =
    let none = subst (λ (l : List Row). Contains l row) h has in absurd (let inside = none.1 in omega arith)
ends_at order schema number (q ∷ qs) events end rows h row has =
    elim (Contains-append_cases h.0 h.1 row (subst (λ (l : List Row). Contains l row) h.4 has)) [
      | inl mine ↦ ends_of order schema number q events end h.0 h.2 row mine
      | inr other ↦ ends_at order schema (number + 1) qs events end h.1 h.3 row other
    ]
