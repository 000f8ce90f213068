-- The lines of what was pulled, sorted, are a block.
use Rattle.std.proofs.Common.{arith, ◌≡◌, ℕ, ◌-◌, List, ◌++◌, refl, sym, ◌∙◌, ap}
use Rattle.std.proofs.lemmas.List.{append-nil}
use Rattle.std.proofs.lemmas.Result.{err_from_is_err_and}
use Rattle.query_engine.specs.Engine.{found_of}
use Rattle.answer_text.proofs.RowLists.{lines_at}
use Rattle.answer_text.specs.declared.Order.TheVariants.{Sorted}
use Rattle.answer_blocks.specs.Wanted.{to_give}
use Rattle.answer_blocks.proofs.Counting.{some_rows, rows_pulled_at, no_rows_of, pulled_within}
use Rattle.answer_blocks.proofs.Joined.{block_pulled, no_block}
use Rattle.answer_blocks.proofs.Put.{on_ok}
use Rattle.answer_blocks.proofs.sorted.push_block.Goals as goal

pub returns-clause-block : goal.returns-clause-block
returns-clause-block g c =
    let number = c.args.number in
    let end = c.events-end.result - 1 in
    let given = to_give c.args.engine.now c.in_ok-pulling.pulling.left c.in_ok-pulling.pulling.cursor in
    let put = c.push_wanted.ensures.put in
    let start = c.args.text.now.items in
    on_ok _ _ c.push_wanted.result
    (λ is. block_pulled Sorted c.args.engine.now number end given put.answers (λ bytes. c.push_wanted.new.text.items ≡ start ++ bytes) c.in_ok-pulling.ensures.answers put.moved put.ordered
    (λ events stands. ap (λ (n : ℕ). n - 1) (c.events-end.ensures.length events stands))
    is)
    put.lines

pub returns-then-not-may_answer-clause-block : goal.returns-then-not-may_answer-clause-block
returns-then-not-may_answer-clause-block g c =
    no_block Sorted c.args.engine.now c.args.number _ (c.if-not-may_answer.ensures.none refl) (sym (append-nil c.args.text.now.items))

pub returns-in_err-pulling-clause-rows : goal.returns-in_err-pulling-clause-rows
returns-in_err-pulling-clause-rows g c =
    let p = err_from_is_err_and c.from_residual.result c.from_residual.ensures.1 in
    some_rows Sorted c.args.engine.now c.args.number _ (λ rows. rw p.1 (tt, omega (arith, c.start.ensures.steps)))

pub returns-clause-rows : goal.returns-clause-rows
returns-clause-rows g c =
    let number = c.args.number in
    let end = c.events-end.result - 1 in
    let given = to_give c.args.engine.now c.in_ok-pulling.pulling.left c.in_ok-pulling.pulling.cursor in
    let put = c.push_wanted.ensures.put in
    let start = c.args.text.now.items in
    rows_pulled_at Sorted c.args.engine.now number end given put.answers _ c.in_ok-pulling.ensures.answers put.moved put.ordered
    (λ events stands. ap (λ (n : ℕ). n - 1) (c.events-end.ensures.length events stands)) (
      on_ok _ _ c.push_wanted.result (λ is. is ∙ ap (λ (l : List ℕ). start ++ l) (sym (lines_at number end put.answers))) put.lines,
      pulled_within number end given put.answers c.args.steps.now c.start.new.steps c.push_wanted.new.steps (found_of c.args.engine.now number) put.moved c.start.ensures.steps c.push_wanted.ensures.steps,
    )

pub returns-then-not-may_answer-clause-rows : goal.returns-then-not-may_answer-clause-rows
returns-then-not-may_answer-clause-rows g c =
    no_rows_of Sorted c.args.engine.now c.args.number _ (c.if-not-may_answer.ensures.none refl) (sym (append-nil c.args.text.now.items), omega arith)
