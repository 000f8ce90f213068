-- The rows of a query and those of the queries after it.
use Rattle.std.proofs.Common.{◌≡◌, ℕ, zero, suc, ◌+◌, ◌<◌, ◌≤◌, List, [], ◌∷◌, ◌++◌, length, map, drop, Some, refl, sym, ◌∙◌, ap, subst, arith}
use Rattle.std.specs.Prelude.{slice_get}
use Rattle.std.proofs.lemmas.List.Sorted.{IsPermutation-refl}
use Rattle.std.proofs.lemmas.Option.{get_or_from_slice_get}
use Rattle.std.proofs.Math.Seq.{drop-cons}
use Rattle.stream_schema.specs.Types.{Declared}
use Rattle.stream_schema.specs.declared.Event.{Event}
use Rattle.cel_terms.specs.declared.Query.{Query}
use Rattle.cel_terms.specs.Answers.{Answer, AreAnswersAt}
use Rattle.answer_text.specs.declared.Order.TheVariants.{Walk}
use Rattle.answer_text.specs.OutputRows.{Row, row_at, AreRowsOf, AreRowsAt}
use Rattle.answer_text.proofs.RowLists.{rows_of_blocks}
use Rattle.answer_blocks.specs.Wanted.{wanted}
use Rattle.answer_blocks.proofs.Blocks.{wanted_are_there, wanted_once, enough, some_blocks_are}
use Rattle.answer_blocks.proofs.Joined.{item_at, none_wanted}

-- there are rows of every query
pub some_rows : (schema : Declared) (number : ℕ) (queries : List Query) (events : List Event) (end : ℕ) → (rows : List Row) × AreRowsAt Walk schema number queries events end rows
some_rows schema number queries events end =
    let some = some_blocks_are Walk schema number queries events end in
    let rows = rows_of_blocks Walk schema number queries events end some.0 some.1 in
    (rows.0, rows.1)

-- as many of the answers as are wanted are the rows of the query
pub rows_of : (schema : Declared) (number : ℕ) (q : Query) (events : List Event) (end : ℕ) (all : List Answer) → AreAnswersAt schema q events end all →
    AreRowsOf Walk schema number q events end (map (row_at number end) (wanted q.any all))
rows_of schema number q events end all h = record {
  answers = wanted q.any all;
  distinct = wanted_once q.any all h.once;
  right = λ a c. h.each a (wanted_are_there q.any all a c);
  enough = enough q.any schema q events end all (wanted q.any all) h (IsPermutation-refl (wanted q.any all));
  ordered = tt;
  are = refl;
}

-- what is left of the queries from the one at this place on
next_of : (queries : List Query) (k : ℕ) (q : Query) → k < length queries → slice_get queries k ≡ Some q → drop k queries ≡ q ∷ drop (suc k) queries
next_of queries k q within at = drop-cons queries k q within ∙ ap (λ (p : Query). p ∷ drop (suc k) queries) (get_or_from_slice_get queries k q q at)

-- the rows of the query at this place, and then those of the queries after it
pub rows_from : (schema : Declared) (queries : List Query) (k : ℕ) (q : Query) (events : List Event) (end : ℕ) (front later : List Row) → k < length queries → slice_get queries k ≡ Some q →
    AreRowsOf Walk schema (k + 1) q events end front → AreRowsAt Walk schema (suc k + 1) (drop (suc k) queries) events end later →
    AreRowsAt Walk schema (k + 1) (drop k queries) events end (front ++ later)
rows_from schema queries k q events end front later within at h rest =
    let number : suc k + 1 ≡ k + 1 + 1 = omega arith in
    let behind = subst (λ (n : ℕ). AreRowsAt Walk schema n (drop (suc k) queries) events end later) number rest in
    let both : AreRowsAt Walk schema (k + 1) (q ∷ drop (suc k) queries) events end (front ++ later) = (front, later, h, behind, refl) in
    subst (λ (qs : List Query). AreRowsAt Walk schema (k + 1) qs events end (front ++ later)) (sym (next_of queries k q within at)) both

-- where the query has no answer, it has no row
skip_one : (schema : Declared) (queries : List Query) (k : ℕ) (q : Query) (events : List Event) (end : ℕ) (rows : List Row) → k < length queries → slice_get queries k ≡ Some q → AreAnswersAt schema q events end [] →
    AreRowsAt Walk schema (suc k + 1) (drop (suc k) queries) events end rows → AreRowsAt Walk schema (k + 1) (drop k queries) events end rows
skip_one schema queries k q events end rows within at none rest =
    let here = subst (λ (l : List Answer). AreRowsOf Walk schema (k + 1) q events end (map (row_at (k + 1) end) l)) (none_wanted q.any) (rows_of schema (k + 1) q events end [] none) in
    rows_from schema queries k q events end [] rows within at here rest

-- so several such queries are passed over
pub skip_rows : (schema : Declared) (queries : List Query) (events : List Event) (end from more : ℕ) (rows : List Row) → from + more ≤ length queries →
    ((k : ℕ) (q : Query) → from ≤ k → k < from + more → slice_get queries k ≡ Some q → AreAnswersAt schema q events end []) →
    AreRowsAt Walk schema (from + more + 1) (drop (from + more) queries) events end rows → AreRowsAt Walk schema (from + 1) (drop from queries) events end rows
skip_rows schema queries events end from zero rows within none h =
    let same : from + zero ≡ from = omega arith in subst (λ (n : ℕ). AreRowsAt Walk schema (n + 1) (drop n queries) events end rows) same h
skip_rows schema queries events end from (suc more) rows within none h =
    let next : from + suc more ≡ suc (from + more) = omega arith in
    let here = subst (λ (n : ℕ). AreRowsAt Walk schema (n + 1) (drop n queries) events end rows) next h in
    let item = item_at queries (from + more) (omega arith) in
    let one = skip_one schema queries (from + more) item.0 events end rows (omega arith) item.1 (none (from + more) item.0 (omega arith) (omega arith) item.1) here in
    skip_rows schema queries events end from more rows (omega arith) (λ k q low high at. none k q low (omega arith) at) one

pub none_after : (queries : List Query) → drop (length queries) queries ≡ []
none_after [] = refl
none_after (q ∷ qs) = none_after qs
