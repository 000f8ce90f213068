-- Blocks of a query at a position. For callers of the crate too.
use Rattle.std.proofs.Common.{ℕ, zero, suc, ◌+◌, List, [], ◌∷◌, ◌++◌, take, Option, Some, None, IsPermutation, Contains, refl, ◌∙◌, arith}
use Rattle.std.specs.Prelude.{flat_map}
use Rattle.std.proofs.lemmas.List.{length-take}
use Rattle.std.proofs.lemmas.List.Sorted.{IsPermutation-refl, IsPermutation-sym, Contains-permutation, length_permutation}
use Rattle.stream_schema.specs.Types.{Declared}
use Rattle.stream_schema.specs.declared.Event.{Event}
use Rattle.cel_terms.specs.declared.Query.{Query}
use Rattle.cel_terms.specs.Answers.{Answer, IsAnswer, AreAnswersAt}
use Rattle.cel_lists.proofs.Answering.{some_answers_are}
use Rattle.cer_base.specs.Repeats.{HasNoRepeats}
use Rattle.cer_base.proofs.Repeats.{HasNoRepeats-permutation}
use Rattle.answer_text.specs.declared.Order.{Order}
use Rattle.answer_text.specs.declared.Order.TheVariants.{Walk, Sorted}
use Rattle.answer_text.specs.Output.{line, AreEnough, AreInOrder, IsBlock, AreBlocks}
use Rattle.answer_blocks.specs.Wanted.{wanted}
use Rattle.answer_blocks.proofs.Sorting.{in_order, in_order_moves, in_order_is}

taken_are_there : (n : ℕ) (all : List Answer) (a : Answer) → Contains (take n all) a → Contains all a
taken_are_there zero all a (k, within, at) = absurd (omega arith)
taken_are_there (suc n) [] a (k, within, at) = absurd (omega arith)
taken_are_there (suc n) (x ∷ xs) a (zero, within, at) = (0, omega arith, at)
taken_are_there (suc n) (x ∷ xs) a (suc k, within, at) =
    let rest = taken_are_there n xs a (k, omega arith, at) in let inside = rest.1 in (suc rest.0, omega arith, rest.2)

taken_once : (n : ℕ) (all : List Answer) → HasNoRepeats all → HasNoRepeats (take n all)
taken_once zero all h = tt
taken_once (suc n) [] h = tt
taken_once (suc n) (x ∷ xs) h = (λ c. h.0 (taken_are_there n xs x c), taken_once n xs h.1)

pub wanted_are_there : (any : Option ℕ) (all : List Answer) (a : Answer) → Contains (wanted any all) a → Contains all a
wanted_are_there None all a c = c
wanted_are_there (Some n) all a c = taken_are_there n all a c

pub wanted_once : (any : Option ℕ) (all : List Answer) → HasNoRepeats all → HasNoRepeats (wanted any all)
wanted_once None all h = h
wanted_once (Some n) all h = taken_once n all h

pub enough : (any : Option ℕ) (schema : Declared) (q : Query) (events : List Event) (end : ℕ) (all answers : List Answer) →
    AreAnswersAt schema q events end all → IsPermutation (wanted any all) answers → AreEnough any (IsAnswer schema q events end) answers
enough None schema q events end all answers h moved = λ a is. Contains-permutation all answers a moved (h.all a is)
enough (Some n) schema q events end all answers h moved = (
  all,
  h.once,
  λ a. (h.all a, h.each a),
  length_permutation (take n all) answers moved ∙ length-take n all,
)

-- The lines of as many of the answers as are wanted are a block.
pub block_of_wanted : (order : Order) (schema : Declared) (number : ℕ) (q : Query) (events : List Event) (end : ℕ) (all answers : List Answer) →
    AreAnswersAt schema q events end all → IsPermutation (wanted q.any all) answers → AreInOrder order answers →
    IsBlock order schema number q events end (flat_map (line number end) answers)
block_of_wanted order schema number q events end all answers h moved ordered = record {
  answers = answers;
  distinct = HasNoRepeats-permutation (wanted q.any all) answers moved (wanted_once q.any all h.once);
  right = λ a c. h.each a (wanted_are_there q.any all a (Contains-permutation answers (wanted q.any all) a (IsPermutation-sym (wanted q.any all) answers moved) c));
  enough = enough q.any schema q events end all answers h moved;
  ordered = ordered;
  written = refl;
}

-- There is a block of each query at each position,
pub some_block_is : (order : Order) (schema : Declared) (number : ℕ) (q : Query) (events : List Event) (end : ℕ) →
    (bytes : List ℕ) × IsBlock order schema number q events end bytes
some_block_is Walk schema number q events end =
    let all = some_answers_are schema q events end in
    let given = wanted q.any all.0 in (
      flat_map (line number end) given,
      block_of_wanted Walk schema number q events end all.0 given all.1 (IsPermutation-refl given) tt,
    )
some_block_is Sorted schema number q events end =
    let all = some_answers_are schema q events end in
    let given = wanted q.any all.0 in (
      flat_map (line number end) (in_order given),
      block_of_wanted Sorted schema number q events end all.0 (in_order given) all.1 (in_order_moves given) (in_order_is given (wanted_once q.any all.0 all.1.once)),
    )

-- and there are blocks of several queries.
pub some_blocks_are : (order : Order) (schema : Declared) (number : ℕ) (queries : List Query) (events : List Event) (end : ℕ) →
    (bytes : List ℕ) × AreBlocks order schema number queries events end bytes
some_blocks_are order schema number [] events end = ([], refl)
some_blocks_are order schema number (q ∷ qs) events end =
    let front = some_block_is order schema number q events end in
    let rest = some_blocks_are order schema (number + 1) qs events end in
    (front.0 ++ rest.0, (front.0, rest.0, front.1, rest.1, refl))
