-- A run in two parts writes what a run over all events writes.
use Rattle.std.proofs.Common.{◌≡◌, ℕ, zero, suc, ◌+◌, ◌-◌, ◌≤◌, List, [], ◌∷◌, ◌++◌, length, refl, sym, ap, subst, ◌∙◌, All, Some, None, slice_get, arith, append_assoc, length-append}
use Rattle.std.specs.Prelude.{◌↔◌}
use Rattle.stream_schema.specs.Types.{Declared, IsWellDeclared}
use Rattle.stream_schema.specs.Events.{IsOfSchema}
use Rattle.stream_schema.specs.declared.Event.{Event}
use Rattle.cel_terms.specs.declared.Query.{Query}
use Rattle.cel_terms.specs.Checked.{IsChecked}
use Rattle.cel_terms.specs.Answers.{Answer, IsAnswer}
use Rattle.answer_text.specs.declared.Order.{Order}
use Rattle.answer_text.specs.declared.Order.TheVariants.{Sorted}
use Rattle.answer_text.specs.Output.{IsBlock, AreBlocks, IsOutput}
use Rattle.output_laws.specs.After.{IsOutputFrom, IsOutputAfter}
use Rattle.output_laws.proofs.After.{parted, joined, after_is_from}
use Rattle.output_laws.proofs.Unique.{one_output}
use Rattle.output_laws.proofs.Growth.{enough_too, output_unchanged}
use Rattle.query_engine.specs.Clocks.{NeverFalls}
use Rattle.checkpoint_text.specs.KeepLaws.{placed_lines, events_of, kept_lines, told_stream}
use Rattle.checkpoint_text.specs.Streams.{IsStreamOf, stream_of}
use Rattle.checkpoint_text.specs.GoingOn.{IsOutputInTurn}
use Rattle.checkpoint_text.proofs.Restarting.{all_there, events_long, stream_long, restarting}

block_too : (order : Order) (schema : Declared) (number : ℕ) (q : Query) (events others : List Event) (end : ℕ) (bytes : List ℕ) → ((answer : Answer) → (IsAnswer schema q events end answer) ↔ (IsAnswer schema q others end answer)) → IsBlock order schema number q events end bytes → IsBlock order schema number q others end bytes
block_too order schema number q events others end bytes same h = record {
  answers = h.answers;
  distinct = h.distinct;
  right = λ answer has. (same answer).0 (h.right answer has);
  enough = enough_too q.any (IsAnswer schema q events end) (IsAnswer schema q others end) same h.answers h.enough;
  ordered = h.ordered;
  written = h.written;
}

blocks_too : (order : Order) (schema : Declared) (number : ℕ) (queries : List Query) (events others : List Event) (end : ℕ) (bytes : List ℕ) → ((k : ℕ) (q : Query) (answer : Answer) → slice_get queries k ≡ Some q → (IsAnswer schema q events end answer) ↔ (IsAnswer schema q others end answer)) →
    AreBlocks order schema number queries events end bytes → AreBlocks order schema number queries others end bytes
blocks_too order schema number [] events others end bytes same h = h
blocks_too order schema number (q ∷ queries) events others end bytes same h = (
  h.0,
  h.1,
  block_too order schema number q events others end h.0 (λ answer. same 0 q answer refl) h.2,
  blocks_too order schema (number + 1) queries events others end h.1 (λ k r answer at. same (suc k) r answer at) h.3,
  h.4,
)

from_too : (order : Order) (schema : Declared) (queries : List Query) (first n : ℕ) (events others : List Event) (bytes : List ℕ) → ((end k : ℕ) (q : Query) (answer : Answer) → first ≤ end → slice_get queries k ≡ Some q → (IsAnswer schema q events end answer) ↔ (IsAnswer schema q others end answer)) →
    IsOutputFrom first n order schema queries events bytes → IsOutputFrom first n order schema queries others bytes
from_too order schema queries first zero events others bytes same h = h
from_too order schema queries first (suc n) events others bytes same h = (
  h.0,
  h.1,
  from_too order schema queries first n events others h.0 same h.2,
  blocks_too order schema 1 queries events others (first + n) h.1 (λ k q answer at. same (first + n) k q answer (omega arith) at) h.3,
  h.4,
)

pub runs_go_on : (order : Order) (schema : Declared) (queries : List Query) (came : List (Event × List ℕ)) (kept more : List Event) (bytes : List ℕ) →
    IsWellDeclared schema → All (IsChecked schema) queries → All (IsOfSchema schema) (stream_of came) → All (λ q. NeverFalls schema q (stream_of came ++ more)) queries →
    IsStreamOf schema (told_stream (length came) (kept_lines schema queries (placed_lines came))) kept →
    (IsOutput order schema queries (stream_of came ++ more) bytes) ↔ (IsOutputInTurn order schema queries (stream_of came) kept more bytes)
runs_go_on order schema queries came kept more bytes well checked of level stream = (there, back)
  where
    first : ℕ
    first = length (stream_of came)

    count : length (stream_of came ++ more) ≡ first + length more
    count = length-append (stream_of came) more

    same : (end k : ℕ) (q : Query) (answer : Answer) → first ≤ end → slice_get queries k ≡ Some q → (IsAnswer schema q (stream_of came ++ more) end answer) ↔ (IsAnswer schema q (kept ++ more) end answer)
    same end k q answer after at =
        let long = stream_long came in
        restarting schema queries came kept more k q well at (all_there (IsChecked schema) queries k q checked at) of (all_there (λ r. NeverFalls schema r (stream_of came ++ more)) queries k q level at) stream end answer (omega (arith, after, long))

    there : IsOutput order schema queries (stream_of came ++ more) bytes → IsOutputInTurn order schema queries (stream_of came) kept more bytes
    there h =
        let r = parted order schema queries (stream_of came ++ more) first (length more) (length (stream_of came ++ more)) bytes count h in
        record {
          before = r.0;
          after = r.1;
          run = (output_unchanged first order schema queries (stream_of came) more r.0 (omega arith)).1 r.2;
          resumed = from_too order schema queries first (length more) (stream_of came ++ more) (kept ++ more) r.1 same r.3;
          whole = r.4;
        }

    back : IsOutputInTurn order schema queries (stream_of came) kept more bytes → IsOutput order schema queries (stream_of came ++ more) bytes
    back h =
        let before = (output_unchanged first order schema queries (stream_of came) more h.before (omega arith)).0 h.run in
        let turned : (end k : ℕ) (q : Query) (answer : Answer) → first ≤ end → slice_get queries k ≡ Some q → (IsAnswer schema q (kept ++ more) end answer) ↔ (IsAnswer schema q (stream_of came ++ more) end answer) = λ end k q answer after at. ((same end k q answer after at).1, (same end k q answer after at).0) in
        let after = from_too order schema queries first (length more) (kept ++ more) (stream_of came ++ more) h.after turned h.resumed in
        subst (IsOutput order schema queries (stream_of came ++ more)) (sym h.whole) (joined order schema queries (stream_of came ++ more) first (length more) (length (stream_of came ++ more)) h.before h.after count before after)

pub resumed_is_rest : (schema : Declared) (queries : List Query) (came : List (Event × List ℕ)) (kept more : List Event) (first behind all : List ℕ) →
    IsWellDeclared schema → All (IsChecked schema) queries → All (IsOfSchema schema) (stream_of came) → All (λ q. NeverFalls schema q (stream_of came ++ more)) queries → All (λ q. q.any ≡ None) queries →
    IsStreamOf schema (told_stream (length came) (kept_lines schema queries (placed_lines came))) kept →
    IsOutput Sorted schema queries (stream_of came) first → IsOutputAfter (length kept) Sorted schema queries (kept ++ more) behind → IsOutput Sorted schema queries (stream_of came ++ more) all →
    all ≡ first ++ behind
resumed_is_rest schema queries came kept more first behind all well checked of level any stream one two whole =
    let there = (after_is_from (length kept) Sorted schema queries (kept ++ more) behind).0 two in
    let same : length kept ≡ length (stream_of came) = (let l = stream_long came in let k = events_long schema 0 (length came) (events_of (kept_lines schema queries (placed_lines came))) kept stream in omega (arith, l, k)) in
    let rest : length (kept ++ more) - length kept ≡ length more = (let l = length-append kept more in omega (arith, l)) in
    let from = subst (λ (n : ℕ). IsOutputFrom n (length more) Sorted schema queries (kept ++ more) behind) same (subst (λ (n : ℕ). IsOutputFrom (length kept) n Sorted schema queries (kept ++ more) behind) rest there) in
    let both = (runs_go_on Sorted schema queries came kept more (first ++ behind) well checked of level stream).1 (record { before = first; after = behind; run = one; resumed = from; whole = refl }) in
    one_output schema queries (stream_of came ++ more) all (first ++ behind) any whole both
