-- Blocks and outputs where more events come. For callers of the crate too.
use Rattle.std.proofs.Common.{◌≡◌, refl, sym, ap, subst, ◌∙◌, ℕ, zero, suc, ◌+◌, ◌-◌, ◌<◌, ◌≤◌, List, [], ◌∷◌, ◌++◌, length, Option, Some, None, slice_get, append_assoc, length-append, arith}
use Rattle.std.proofs.lemmas.List.{append-nil}
use Rattle.std.specs.Prelude.{◌↔◌}
use Rattle.stream_schema.specs.Types.{Declared}
use Rattle.stream_schema.specs.declared.Event.{Event}
use Rattle.cel_terms.specs.declared.Query.{Query}
use Rattle.cel_terms.specs.Answers.{Answer, IsAnswer}
use Rattle.answer_text.specs.declared.Order.{Order}
use Rattle.answer_text.specs.Output.{AreEnough, IsBlock, AreBlocks, IsOutputOf, IsOutput}
use Rattle.output_laws.specs.AnswerLaws.{AreSameUpTo, HasBlocks}
use Rattle.output_laws.proofs.EarlierAnswers.{turned, look_back, same_up_to}

-- what is enough of one kind is enough of the other, where both have the same answers
pub enough_too : (any : Option ℕ) (P Q : Answer → Type 0) → ((a : Answer) → P a ↔ Q a) → (answers : List Answer) → AreEnough any P answers → AreEnough any Q answers
enough_too None P Q same answers h = λ a is. h a ((same a).1 is)
enough_too (Some n) P Q same answers h = (
  h.0,
  h.1,
  λ a. (λ is. (h.2 a).0 ((same a).1 is), λ has. (same a).0 ((h.2 a).1 has)),
  h.3,
)

-- A block is one too where the events up to its position are the same.
pub block_stands : (order : Order) (schema : Declared) (number : ℕ) (q : Query) (events others : List Event) (end : ℕ) (bytes : List ℕ) → AreSameUpTo end events others → IsBlock order schema number q events end bytes → IsBlock order schema number q others end bytes
block_stands order schema number q events others end bytes same h = record {
  answers = h.answers;
  distinct = h.distinct;
  right = λ a has. look_back schema q events others end a same (h.right a has);
  enough = enough_too q.any (IsAnswer schema q events end) (IsAnswer schema q others end)
      (λ a. (look_back schema q events others end a same, look_back schema q others events end a (turned end events others same)))
      h.answers h.enough;
  ordered = h.ordered;
  written = h.written;
}

-- and so are the blocks of all queries
pub blocks_stand : (order : Order) (schema : Declared) (number : ℕ) (queries : List Query) (events others : List Event) (end : ℕ) (bytes : List ℕ) → AreSameUpTo end events others → AreBlocks order schema number queries events end bytes → AreBlocks order schema number queries others end bytes
blocks_stand order schema number [] events others end bytes same h = h
blocks_stand order schema number (q ∷ qs) events others end bytes same h = (
  h.0,
  h.1,
  block_stands order schema number q events others end h.0 same h.2,
  blocks_stand order schema (number + 1) qs events others end h.1 same h.3,
  h.4,
)

pub block_unchanged : (order : Order) (schema : Declared) (number : ℕ) (q : Query) (events more : List Event) (end : ℕ) (bytes : List ℕ) → end < length events → IsBlock order schema number q events end bytes ↔ IsBlock order schema number q (events ++ more) end bytes
block_unchanged order schema number q events more end bytes less =
    let same = same_up_to events more end less in (
      block_stands order schema number q events (events ++ more) end bytes same,
      block_stands order schema number q (events ++ more) events end bytes (turned end events (events ++ more) same),
    )

pub blocks_unchanged : (order : Order) (schema : Declared) (number : ℕ) (queries : List Query) (events more : List Event) (end : ℕ) (bytes : List ℕ) → end < length events → AreBlocks order schema number queries events end bytes ↔ AreBlocks order schema number queries (events ++ more) end bytes
blocks_unchanged order schema number queries events more end bytes less =
    let same = same_up_to events more end less in (
      blocks_stand order schema number queries events (events ++ more) end bytes same,
      blocks_stand order schema number queries (events ++ more) events end bytes (turned end events (events ++ more) same),
    )

-- What is written at the first n positions depends on the events there alone.
pub output_stands : (n : ℕ) (order : Order) (schema : Declared) (queries : List Query) (events others : List Event) (bytes : List ℕ) → ((p : ℕ) → p < n → slice_get events p ≡ slice_get others p) → IsOutputOf n order schema queries events bytes → IsOutputOf n order schema queries others bytes
output_stands zero order schema queries events others bytes same h = h
output_stands (suc n) order schema queries events others bytes same h = (
  h.0,
  h.1,
  output_stands n order schema queries events others h.0 (λ p less. same p (omega arith)) h.2,
  blocks_stand order schema 1 queries events others n h.1 (λ p upto. same p (omega arith)) h.3,
  h.4,
)

same_before : (events more : List Event) (p : ℕ) → p < length events → slice_get events p ≡ slice_get (events ++ more) p
same_before events more p less = same_up_to events more p less p (omega arith)

pub output_unchanged : (n : ℕ) (order : Order) (schema : Declared) (queries : List Query) (events more : List Event) (bytes : List ℕ) → n ≤ length events → IsOutputOf n order schema queries events bytes ↔ IsOutputOf n order schema queries (events ++ more) bytes
output_unchanged n order schema queries events more bytes within = (
  output_stands n order schema queries events (events ++ more) bytes (λ p less. same_before events more p (omega arith)),
  output_stands n order schema queries (events ++ more) events bytes (λ p less. sym (same_before events more p (omega arith))),
)

-- One more event puts its blocks after the output.
pub output_grows_by_blocks : (order : Order) (schema : Declared) (queries : List Query) (events : List Event) (event : Event) (bytes blocks : List ℕ) → IsOutput order schema queries events bytes → AreBlocks order schema 1 queries (events ++ event ∷ []) (length events) blocks → IsOutput order schema queries (events ++ event ∷ []) (bytes ++ blocks)
output_grows_by_blocks order schema queries events event bytes blocks h b =
    let before = (output_unchanged (length events) order schema queries events (event ∷ []) bytes (omega arith)).0 h in
    let count : suc (length events) ≡ length (events ++ event ∷ []) = omega (arith, length-append events (event ∷ [])) in
    let step : IsOutputOf (suc (length events)) order schema queries (events ++ event ∷ []) (bytes ++ blocks) = (bytes, blocks, before, b, refl) in
    subst (λ (n : ℕ). IsOutputOf n order schema queries (events ++ event ∷ []) (bytes ++ blocks)) count step

-- the same, where the blocks are known as those of the last position
pub output_grows_at_last : (order : Order) (schema : Declared) (queries : List Query) (events : List Event) (event : Event) (bytes blocks : List ℕ) → IsOutput order schema queries events bytes → AreBlocks order schema 1 queries (events ++ event ∷ []) (length (events ++ event ∷ []) - 1) blocks → IsOutput order schema queries (events ++ event ∷ []) (bytes ++ blocks)
output_grows_at_last order schema queries events event bytes blocks h b =
    let last : length (events ++ event ∷ []) - 1 ≡ length events = omega (arith, length-append events (event ∷ [])) in
    output_grows_by_blocks order schema queries events event bytes blocks h (subst (λ (end : ℕ). AreBlocks order schema 1 queries (events ++ event ∷ []) end blocks) last b)

-- the output at the first n positions, with what is written at k more
longer : (order : Order) (schema : Declared) (queries : List Query) (events : List Event) → ((end : ℕ) → HasBlocks order schema queries events end) → (k n m : ℕ) → m ≡ n + k → (bytes : List ℕ) → IsOutputOf n order schema queries events bytes → (rest : List ℕ) × IsOutputOf m order schema queries events (bytes ++ rest)
longer order schema queries events each zero n m e bytes h =
    let here : n ≡ m = omega arith in
    ([], subst (λ (j : ℕ). IsOutputOf j order schema queries events (bytes ++ [])) here (subst (IsOutputOf n order schema queries events) (sym (append-nil bytes)) h))
longer order schema queries events each (suc k) n m e bytes h =
    let b = each n in
    let step : IsOutputOf (suc n) order schema queries events (bytes ++ b.0) = (bytes, b.0, h, b.1, refl) in
    let r = longer order schema queries events each k (suc n) m (omega arith) (bytes ++ b.0) step in
    (b.0 ++ r.0, subst (IsOutputOf m order schema queries events) (append_assoc bytes b.0 r.0) r.1)

-- The output of more events begins with that of the first, where every position has its blocks.
pub output_grows : (order : Order) (schema : Declared) (queries : List Query) (events more : List Event) (bytes : List ℕ) → ((end : ℕ) → HasBlocks order schema queries (events ++ more) end) → IsOutput order schema queries events bytes → (rest : List ℕ) × IsOutput order schema queries (events ++ more) (bytes ++ rest)
output_grows order schema queries events more bytes each h =
    longer order schema queries (events ++ more) each (length more) (length events) (length (events ++ more)) (length-append events more) bytes
    ((output_unchanged (length events) order schema queries events more bytes (omega arith)).0 h)

-- what is written at the first m positions, in two parts
shorter : (order : Order) (schema : Declared) (queries : List Query) (events : List Event) (k n m : ℕ) → m ≡ n + k → (bytes : List ℕ) → IsOutputOf m order schema queries events bytes → (front : List ℕ) × (rest : List ℕ) × IsOutputOf n order schema queries events front × (bytes ≡ front ++ rest)
shorter order schema queries events zero n m e bytes h =
    let here : m ≡ n = omega arith in
    (bytes, [], subst (λ (j : ℕ). IsOutputOf j order schema queries events bytes) here h, sym (append-nil bytes))
shorter order schema queries events (suc k) n zero e bytes h = absurd (omega arith)
shorter order schema queries events (suc k) n (suc m) e bytes h =
    let r = shorter order schema queries events k n m (omega arith) h.0 h.2 in
    (r.0, r.1 ++ h.1, r.2, h.4 ∙ (ap (λ (x : List ℕ). x ++ h.1) r.3 ∙ append_assoc r.0 r.1 h.1))

-- Every output of more events begins with an output of the first.
pub output_begins : (order : Order) (schema : Declared) (queries : List Query) (events more : List Event) (bytes : List ℕ) → IsOutput order schema queries (events ++ more) bytes → (front : List ℕ) × (rest : List ℕ) × IsOutput order schema queries events front × (bytes ≡ front ++ rest)
output_begins order schema queries events more bytes h =
    let r = shorter order schema queries (events ++ more) (length more) (length events) (length (events ++ more)) (length-append events more) bytes h in
    (r.0, r.1, (output_unchanged (length events) order schema queries events more r.0 (omega arith)).1 r.2, r.3)
