-- The output's rows, where more events come. For callers of the crate too.
use Rattle.std.proofs.Common.{◌≡◌, refl, sym, subst, ℕ, zero, suc, ◌+◌, ◌-◌, ◌<◌, List, [], ◌∷◌, ◌++◌, length, slice_get, append_assoc, length-append, arith}
use Rattle.std.proofs.lemmas.List.{append-nil}
use Rattle.stream_schema.specs.Types.{Declared}
use Rattle.stream_schema.specs.declared.Event.{Event}
use Rattle.cel_terms.specs.declared.Query.{Query}
use Rattle.cel_terms.specs.Answers.{IsAnswer}
use Rattle.answer_text.specs.declared.Order.{Order}
use Rattle.answer_text.specs.OutputRows.{Row, AreRowsOf, AreRowsAt, AreFirstRows, AreOutputRows}
use Rattle.answer_text.proofs.RowLists.{output_of_rows, rows_of_output, rows_of_blocks}
use Rattle.output_laws.specs.AnswerLaws.{AreSameUpTo, HasBlocks}
use Rattle.output_laws.specs.RowLaws.{RowsAreTheOutput}
use Rattle.output_laws.proofs.EarlierAnswers.{turned, look_back, same_up_to}
use Rattle.output_laws.proofs.Growth.{enough_too}

pub rows_are_output : RowsAreTheOutput
rows_are_output = record {
  lines = λ order schema queries events rows h. output_of_rows (length events) order schema queries events rows h;
  rows = λ order schema queries events bytes h. rows_of_output (length events) order schema queries events bytes h;
}

-- The rows of a query are those too where the events up to their position are the same,
rows_of_stand : (order : Order) (schema : Declared) (number : ℕ) (q : Query) (events others : List Event) (end : ℕ) (rows : List Row) → AreSameUpTo end events others → AreRowsOf order schema number q events end rows → AreRowsOf order schema number q others end rows
rows_of_stand order schema number q events others end rows same h = record {
  answers = h.answers;
  distinct = h.distinct;
  right = λ a has. look_back schema q events others end a same (h.right a has);
  enough = enough_too q.any (IsAnswer schema q events end) (IsAnswer schema q others end)
      (λ a. (look_back schema q events others end a same, look_back schema q others events end a (turned end events others same)))
      h.answers h.enough;
  ordered = h.ordered;
  are = h.are;
}

-- those of all queries,
pub rows_at_stand : (order : Order) (schema : Declared) (number : ℕ) (queries : List Query) (events others : List Event) (end : ℕ) (rows : List Row) → AreSameUpTo end events others → AreRowsAt order schema number queries events end rows → AreRowsAt order schema number queries others end rows
rows_at_stand order schema number [] events others end rows same h = h
rows_at_stand order schema number (q ∷ qs) events others end rows same h = (
  h.0,
  h.1,
  rows_of_stand order schema number q events others end h.0 same h.2,
  rows_at_stand order schema (number + 1) qs events others end h.1 same h.3,
  h.4,
)

-- and those of the first n positions.
first_rows_stand : (n : ℕ) (order : Order) (schema : Declared) (queries : List Query) (events others : List Event) (rows : List Row) → ((p : ℕ) → p < n → slice_get events p ≡ slice_get others p) → AreFirstRows n order schema queries events rows → AreFirstRows n order schema queries others rows
first_rows_stand zero order schema queries events others rows same h = h
first_rows_stand (suc n) order schema queries events others rows same h = (
  h.0,
  h.1,
  first_rows_stand n order schema queries events others h.0 (λ p less. same p (omega arith)) h.2,
  rows_at_stand order schema 1 queries events others n h.1 (λ p upto. same p (omega arith)) h.3,
  h.4,
)

later_rows : (order : Order) (schema : Declared) (queries : List Query) (events more : List Event) (rows : List Row) → AreOutputRows order schema queries events rows → AreFirstRows (length events) order schema queries (events ++ more) rows
later_rows order schema queries events more rows h =
    first_rows_stand (length events) order schema queries events (events ++ more) rows (λ p less. same_up_to events more p less p (omega arith)) h

-- One more event puts its rows after.
pub rows_grow_at_last : (order : Order) (schema : Declared) (queries : List Query) (events : List Event) (event : Event) (rows more : List Row) → AreOutputRows order schema queries events rows → AreRowsAt order schema 1 queries (events ++ event ∷ []) (length (events ++ event ∷ []) - 1) more → AreOutputRows order schema queries (events ++ event ∷ []) (rows ++ more)
rows_grow_at_last order schema queries events event rows more h b =
    let last : length (events ++ event ∷ []) - 1 ≡ length events = omega (arith, length-append events (event ∷ [])) in
    let count : suc (length events) ≡ length (events ++ event ∷ []) = omega (arith, length-append events (event ∷ [])) in
    let here = subst (λ (end : ℕ). AreRowsAt order schema 1 queries (events ++ event ∷ []) end more) last b in
    let step : AreFirstRows (suc (length events)) order schema queries (events ++ event ∷ []) (rows ++ more) =
    (rows, more, later_rows order schema queries events (event ∷ []) rows h, here, refl) in
    subst (λ (n : ℕ). AreFirstRows n order schema queries (events ++ event ∷ []) (rows ++ more)) count step

-- the rows at the first n positions, with those at k more
longer : (order : Order) (schema : Declared) (queries : List Query) (events : List Event) → ((end : ℕ) → HasBlocks order schema queries events end) → (k n m : ℕ) → m ≡ n + k → (rows : List Row) → AreFirstRows n order schema queries events rows → (rest : List Row) × AreFirstRows m order schema queries events (rows ++ rest)
longer order schema queries events each zero n m e rows h =
    let here : n ≡ m = omega arith in
    ([], subst (λ (j : ℕ). AreFirstRows j order schema queries events (rows ++ [])) here (subst (AreFirstRows n order schema queries events) (sym (append-nil rows)) h))
longer order schema queries events each (suc k) n m e rows h =
    let b = each n in
    let more = rows_of_blocks order schema 1 queries events n b.0 b.1 in
    let step : AreFirstRows (suc n) order schema queries events (rows ++ more.0) = (rows, more.0, h, more.1, refl) in
    let r = longer order schema queries events each k (suc n) m (omega arith) (rows ++ more.0) step in
    (more.0 ++ r.0, subst (AreFirstRows m order schema queries events) (append_assoc rows more.0 r.0) r.1)

-- The rows of more events begin with those of the first, where every position has its blocks.
pub rows_grow : (order : Order) (schema : Declared) (queries : List Query) (events more : List Event) (rows : List Row) → ((end : ℕ) → HasBlocks order schema queries (events ++ more) end) → AreOutputRows order schema queries events rows → (rest : List Row) × AreOutputRows order schema queries (events ++ more) (rows ++ rest)
rows_grow order schema queries events more rows each h =
    longer order schema queries (events ++ more) each (length more) (length events) (length (events ++ more)) (length-append events more) rows
    (later_rows order schema queries events more rows h)
