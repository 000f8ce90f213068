-- What is written at the positions behind others, where more events come. For callers of the crate too.
use Rattle.std.proofs.Common.{◌≡◌, refl, sym, ap, subst, ◌∙◌, ℕ, zero, suc, ◌+◌, ◌-◌, ◌<◌, ◌≤◌, List, [], ◌∷◌, ◌++◌, length, slice_get, append_assoc, length-append, arith}
use Rattle.std.specs.Prelude.{◌↔◌}
use Rattle.std.proofs.lemmas.List.{append-nil}
use Rattle.stream_schema.specs.Types.{Declared}
use Rattle.stream_schema.specs.declared.Event.{Event}
use Rattle.cel_terms.specs.declared.Query.{Query}
use Rattle.answer_text.specs.declared.Order.{Order}
use Rattle.answer_text.specs.Output.{AreBlocks, IsOutputOf, IsOutput}
use Rattle.answer_text.specs.OutputRows.{Row, AreRowsAt, AreFirstRows, AreOutputRows}
use Rattle.answer_text.proofs.RowLists.{rows_of_blocks}
use Rattle.output_laws.specs.AnswerLaws.{HasBlocks}
use Rattle.output_laws.specs.After.{IsOutputFrom, AreRowsFrom, IsOutputAfter, AreRowsAfter}
use Rattle.output_laws.proofs.EarlierAnswers.{same_up_to}
use Rattle.output_laws.proofs.Growth.{blocks_stand, output_unchanged, output_grows_at_last, output_grows}
use Rattle.output_laws.proofs.RowsGrow.{rows_at_stand, rows_grow_at_last, rows_grow}

-- IN TWO PARTS

-- the output at the first positions is in two parts
pub parted : (order : Order) (schema : Declared) (queries : List Query) (events : List Event) (first n m : ℕ) (bytes : List ℕ) → m ≡ first + n → IsOutputOf m order schema queries events bytes →
    (front : List ℕ) × (rest : List ℕ) × IsOutputOf first order schema queries events front × IsOutputFrom first n order schema queries events rest × (bytes ≡ front ++ rest)
parted order schema queries events first zero m bytes e h =
    let here : m ≡ first = omega (arith, e) in
    (bytes, [], subst (λ k. IsOutputOf k order schema queries events bytes) here h, refl, sym (append-nil bytes))
parted order schema queries events first (suc n) zero bytes e h = absurd (omega (arith, e))
parted order schema queries events first (suc n) (suc m) bytes e h =
    let place : m ≡ first + n = omega (arith, e) in
    let r = parted order schema queries events first n m h.0 place h.2 in
    (r.0, r.1 ++ h.1, r.2, (r.1, h.1, r.3, subst (λ end. AreBlocks order schema 1 queries events end h.1) place h.3, refl), h.4 ∙ (ap (λ xs. xs ++ h.1) r.4 ∙ append_assoc r.0 r.1 h.1))

-- and two such parts are the output
pub joined : (order : Order) (schema : Declared) (queries : List Query) (events : List Event) (first n m : ℕ) (front rest : List ℕ) → m ≡ first + n → IsOutputOf first order schema queries events front → IsOutputFrom first n order schema queries events rest →
    IsOutputOf m order schema queries events (front ++ rest)
joined order schema queries events first zero m front rest e h k =
    let here : first ≡ m = omega (arith, e) in
    subst (λ j. IsOutputOf j order schema queries events (front ++ rest)) here (subst (IsOutputOf first order schema queries events) (sym (append-nil front) ∙ ap (λ xs. front ++ xs) (sym k)) h)
joined order schema queries events first (suc n) zero front rest e h k = absurd (omega (arith, e))
joined order schema queries events first (suc n) (suc m) front rest e h k =
    let place : m ≡ first + n = omega (arith, e) in
    (front ++ k.0, k.1, joined order schema queries events first n m front k.0 place h k.2, subst (λ end. AreBlocks order schema 1 queries events end k.1) (sym place) k.3, ap (λ xs. front ++ xs) k.4 ∙ sym (append_assoc front k.0 k.1))

-- with nothing before, the output from the first position on is the output
from_zero : (order : Order) (schema : Declared) (queries : List Query) (events : List Event) (n : ℕ) (bytes : List ℕ) → (IsOutputOf n order schema queries events bytes) ↔ (IsOutputFrom 0 n order schema queries events bytes)
from_zero order schema queries events zero bytes = (λ h. h, λ h. h)
from_zero order schema queries events (suc n) bytes =
    let place : n ≡ 0 + n = omega arith in
    let At : List ℕ → ℕ → Type 0 = λ rest end. AreBlocks order schema 1 queries events end rest in (
      λ h. (h.0, h.1, (from_zero order schema queries events n h.0).0 h.2, subst (At h.1) place h.3, h.4),
      λ h. (h.0, h.1, (from_zero order schema queries events n h.0).1 h.2, subst (At h.1) (sym place) h.3, h.4),
    )

pub after_is_from : (first : ℕ) (order : Order) (schema : Declared) (queries : List Query) (events : List Event) (bytes : List ℕ) → (IsOutputAfter first order schema queries events bytes) ↔ (IsOutputFrom first (length events - first) order schema queries events bytes)
after_is_from (suc n) order schema queries events bytes = (λ h. h, λ h. h)
after_is_from zero order schema queries events bytes =
    let all : length events ≡ length events - 0 = omega arith in
    let P : ℕ → Type 0 = λ n. (IsOutput order schema queries events bytes) ↔ (IsOutputFrom 0 n order schema queries events bytes) in
    subst P all (from_zero order schema queries events (length events) bytes)

pub in_two_parts : (order : Order) (schema : Declared) (queries : List Query) (before more : List Event) (bytes : List ℕ) → (IsOutput order schema queries (before ++ more) bytes)
    ↔ ((front : List ℕ) × (rest : List ℕ) × IsOutput order schema queries before front × IsOutputAfter (length before) order schema queries (before ++ more) rest × (bytes ≡ front ++ rest))
in_two_parts order schema queries before more bytes =
    let all = before ++ more in
    let count : length all ≡ length before + (length all - length before) = (let l = length-append before more in omega (arith, l)) in (
      λ h. (
          let r = parted order schema queries all (length before) (length all - length before) (length all) bytes count h in
          (r.0, r.1, (output_unchanged (length before) order schema queries before more r.0 (omega arith)).1 r.2, (after_is_from (length before) order schema queries all r.1).1 r.3, r.4)
          ),
      λ h. (
          let front = (output_unchanged (length before) order schema queries before more h.0 (omega arith)).0 h.2 in
          let rest = (after_is_from (length before) order schema queries all h.1).0 h.3 in
          subst (IsOutput order schema queries all) (sym h.4) (joined order schema queries all (length before) (length all - length before) (length all) h.0 h.1 count front rest)
          ),
    )

-- MORE EVENTS

-- nothing is written behind the last event
pub after_none : (first : ℕ) (order : Order) (schema : Declared) (queries : List Query) (events : List Event) → length events ≡ first → IsOutputAfter first order schema queries events []
after_none zero order schema queries events none = subst (λ n. IsOutputOf n order schema queries events []) (sym none) refl
after_none (suc k) order schema queries events none =
    let rest : 0 ≡ length events - suc k = omega (arith, none) in
    subst (λ n. IsOutputFrom (suc k) n order schema queries events []) rest refl

pub rows_after_none : (first : ℕ) (order : Order) (schema : Declared) (queries : List Query) (events : List Event) → length events ≡ first → AreRowsAfter first order schema queries events []
rows_after_none zero order schema queries events none = subst (λ n. AreFirstRows n order schema queries events []) (sym none) refl
rows_after_none (suc k) order schema queries events none =
    let rest : 0 ≡ length events - suc k = omega (arith, none) in
    subst (λ n. AreRowsFrom (suc k) n order schema queries events []) rest refl

-- what is written from a position on depends on the events up to the last position alone
from_stands : (first n : ℕ) (order : Order) (schema : Declared) (queries : List Query) (events more : List Event) (bytes : List ℕ) → first + n ≤ length events → IsOutputFrom first n order schema queries events bytes → IsOutputFrom first n order schema queries (events ++ more) bytes
from_stands first zero order schema queries events more bytes within h = h
from_stands first (suc n) order schema queries events more bytes within h = (
  h.0,
  h.1,
  from_stands first n order schema queries events more h.0 (omega arith) h.2,
  blocks_stand order schema 1 queries events (events ++ more) (first + n) h.1 (same_up_to events more (first + n) (omega arith)) h.3,
  h.4,
)

rows_from_stand : (first n : ℕ) (order : Order) (schema : Declared) (queries : List Query) (events more : List Event) (rows : List Row) → first + n ≤ length events → AreRowsFrom first n order schema queries events rows → AreRowsFrom first n order schema queries (events ++ more) rows
rows_from_stand first zero order schema queries events more rows within h = h
rows_from_stand first (suc n) order schema queries events more rows within h = (
  h.0,
  h.1,
  rows_from_stand first n order schema queries events more h.0 (omega arith) h.2,
  rows_at_stand order schema 1 queries events (events ++ more) (first + n) h.1 (same_up_to events more (first + n) (omega arith)) h.3,
  h.4,
)

-- One more event puts its blocks after.
pub after_grows_at_last : (first : ℕ) (order : Order) (schema : Declared) (queries : List Query) (events : List Event) (event : Event) (bytes blocks : List ℕ) → first ≤ length events → IsOutputAfter first order schema queries events bytes →
    AreBlocks order schema 1 queries (events ++ event ∷ []) (length (events ++ event ∷ []) - 1) blocks → IsOutputAfter first order schema queries (events ++ event ∷ []) (bytes ++ blocks)
after_grows_at_last zero order schema queries events event bytes blocks within h b = output_grows_at_last order schema queries events event bytes blocks h b
after_grows_at_last (suc k) order schema queries events event bytes blocks within h b =
    let all = events ++ event ∷ [] in
    let long = length-append events (event ∷ []) in
    let n = length events - suc k in
    let last : length all - 1 ≡ suc k + n = omega (arith, long, within) in
    let count : suc n ≡ length all - suc k = omega (arith, long, within) in
    let before = from_stands (suc k) n order schema queries events (event ∷ []) bytes (omega (arith, within)) h in
    let here = subst (λ (end : ℕ). AreBlocks order schema 1 queries all end blocks) last b in
    let step : IsOutputFrom (suc k) (suc n) order schema queries all (bytes ++ blocks) = (bytes, blocks, before, here, refl) in
    subst (λ (m : ℕ). IsOutputFrom (suc k) m order schema queries all (bytes ++ blocks)) count step

pub rows_after_grow_at_last : (first : ℕ) (order : Order) (schema : Declared) (queries : List Query) (events : List Event) (event : Event) (rows more : List Row) → first ≤ length events → AreRowsAfter first order schema queries events rows →
    AreRowsAt order schema 1 queries (events ++ event ∷ []) (length (events ++ event ∷ []) - 1) more → AreRowsAfter first order schema queries (events ++ event ∷ []) (rows ++ more)
rows_after_grow_at_last zero order schema queries events event rows more within h b = rows_grow_at_last order schema queries events event rows more h b
rows_after_grow_at_last (suc k) order schema queries events event rows more within h b =
    let all = events ++ event ∷ [] in
    let long = length-append events (event ∷ []) in
    let n = length events - suc k in
    let last : length all - 1 ≡ suc k + n = omega (arith, long, within) in
    let count : suc n ≡ length all - suc k = omega (arith, long, within) in
    let before = rows_from_stand (suc k) n order schema queries events (event ∷ []) rows (omega (arith, within)) h in
    let here = subst (λ (end : ℕ). AreRowsAt order schema 1 queries all end more) last b in
    let step : AreRowsFrom (suc k) (suc n) order schema queries all (rows ++ more) = (rows, more, before, here, refl) in
    subst (λ (m : ℕ). AreRowsFrom (suc k) m order schema queries all (rows ++ more)) count step

-- the output at n positions from one on, with what is written at k more
longer : (order : Order) (schema : Declared) (queries : List Query) (events : List Event) → ((end : ℕ) → HasBlocks order schema queries events end) → (first k n m : ℕ) → m ≡ n + k → (bytes : List ℕ) → IsOutputFrom first n order schema queries events bytes →
    (rest : List ℕ) × IsOutputFrom first m order schema queries events (bytes ++ rest)
longer order schema queries events each first zero n m e bytes h =
    let here : n ≡ m = omega arith in
    ([], subst (λ (j : ℕ). IsOutputFrom first j order schema queries events (bytes ++ [])) here (subst (IsOutputFrom first n order schema queries events) (sym (append-nil bytes)) h))
longer order schema queries events each first (suc k) n m e bytes h =
    let b = each (first + n) in
    let step : IsOutputFrom first (suc n) order schema queries events (bytes ++ b.0) = (bytes, b.0, h, b.1, refl) in
    let r = longer order schema queries events each first k (suc n) m (omega arith) (bytes ++ b.0) step in
    (b.0 ++ r.0, subst (IsOutputFrom first m order schema queries events) (append_assoc bytes b.0 r.0) r.1)

rows_longer : (order : Order) (schema : Declared) (queries : List Query) (events : List Event) → ((end : ℕ) → HasBlocks order schema queries events end) → (first k n m : ℕ) → m ≡ n + k → (rows : List Row) → AreRowsFrom first n order schema queries events rows →
    (rest : List Row) × AreRowsFrom first m order schema queries events (rows ++ rest)
rows_longer order schema queries events each first zero n m e rows h =
    let here : n ≡ m = omega arith in
    ([], subst (λ (j : ℕ). AreRowsFrom first j order schema queries events (rows ++ [])) here (subst (AreRowsFrom first n order schema queries events) (sym (append-nil rows)) h))
rows_longer order schema queries events each first (suc k) n m e rows h =
    let b = each (first + n) in
    let more = rows_of_blocks order schema 1 queries events (first + n) b.0 b.1 in
    let step : AreRowsFrom first (suc n) order schema queries events (rows ++ more.0) = (rows, more.0, h, more.1, refl) in
    let r = rows_longer order schema queries events each first k (suc n) m (omega arith) (rows ++ more.0) step in
    (more.0 ++ r.0, subst (AreRowsFrom first m order schema queries events) (append_assoc rows more.0 r.0) r.1)

-- More events put more after, where every position has its blocks.
pub after_grows : (first : ℕ) (order : Order) (schema : Declared) (queries : List Query) (events more : List Event) (bytes : List ℕ) → first ≤ length events → ((end : ℕ) → HasBlocks order schema queries (events ++ more) end) →
    IsOutputAfter first order schema queries events bytes → (rest : List ℕ) × IsOutputAfter first order schema queries (events ++ more) (bytes ++ rest)
after_grows zero order schema queries events more bytes within each h = output_grows order schema queries events more bytes each h
after_grows (suc k) order schema queries events more bytes within each h =
    let long = length-append events more in
    longer order schema queries (events ++ more) each (suc k) (length more) (length events - suc k) (length (events ++ more) - suc k) (omega (arith, long, within)) bytes
    (from_stands (suc k) (length events - suc k) order schema queries events more bytes (omega (arith, within)) h)

pub rows_after_grow : (first : ℕ) (order : Order) (schema : Declared) (queries : List Query) (events more : List Event) (rows : List Row) → first ≤ length events → ((end : ℕ) → HasBlocks order schema queries (events ++ more) end) →
    AreRowsAfter first order schema queries events rows → (rest : List Row) × AreRowsAfter first order schema queries (events ++ more) (rows ++ rest)
rows_after_grow zero order schema queries events more rows within each h = rows_grow order schema queries events more rows each h
rows_after_grow (suc k) order schema queries events more rows within each h =
    let long = length-append events more in
    rows_longer order schema queries (events ++ more) each (suc k) (length more) (length events - suc k) (length (events ++ more) - suc k) (omega (arith, long, within)) rows
    (rows_from_stand (suc k) (length events - suc k) order schema queries events more rows (omega (arith, within)) h)
