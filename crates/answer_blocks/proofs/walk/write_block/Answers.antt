-- The block of what was pulled, or some block where nothing was.
use Rattle.std.proofs.Common.{ℕ, ◌+◌, ◌-◌, length, map, ap, refl, arith}
use Rattle.std.proofs.lemmas.List.Sorted.{IsPermutation-refl}
use Rattle.std.proofs.lemmas.Result.{err_from_is_err_and}
use Rattle.answer_text.specs.declared.Order.TheVariants.{Walk}
use Rattle.answer_text.specs.OutputRows.{lines_of, row_at}
use Rattle.query_engine.specs.Counts.{cursor_bound}
use Rattle.answer_blocks.specs.Wanted.{to_give}
use Rattle.answer_blocks.proofs.Blocks.{some_block_is}
use Rattle.answer_blocks.proofs.Joined.{block_pulled, no_block}
use Rattle.answer_blocks.proofs.Counting.{some_rows, rows_pulled_at, wrote_later, no_rows_of}
use Rattle.answer_blocks.proofs.Writing.{took_none, prefix_none}
use Rattle.answer_blocks.proofs.walk.write_block.Goals as goal

pub returns-in_err-pulling-clause-took : goal.returns-in_err-pulling-clause-took
returns-in_err-pulling-clause-took g c = record {
  block = λ events q stands at.
      let some = some_block_is Walk c.args.engine.now.schema c.args.number q events (length events - 1) in
      let p = err_from_is_err_and c.from_residual.result c.from_residual.ensures.1 in
      (some.0, some.1, rw (p.1, p.2) (prefix_none (g.K.Sink.taken c.args.out.now) some.0));
}

pub returns-clause-took : goal.returns-clause-took
returns-clause-took g c =
    let given = to_give c.args.engine.now c.in_ok-pulling.pulling.left c.in_ok-pulling.pulling.cursor in
    block_pulled Walk c.args.engine.now c.args.number (c.events-end.result - 1) given given _ c.in_ok-pulling.ensures.answers (IsPermutation-refl given) (λ once. tt)
    (λ events stands. ap (λ (n : ℕ). n - 1) (c.events-end.ensures.length events stands)) c.write_answers.ensures.took

pub returns-then-not-may_answer-clause-took : goal.returns-then-not-may_answer-clause-took
returns-then-not-may_answer-clause-took g c =
    no_block Walk c.args.engine.now c.args.number _ (c.if-not-may_answer.ensures.none refl) (took_none (g.K.Sink.taken c.args.out.now))

pub returns-in_err-pulling-clause-rows : goal.returns-in_err-pulling-clause-rows
returns-in_err-pulling-clause-rows g c =
    let p = err_from_is_err_and c.from_residual.result c.from_residual.ensures.1 in
    some_rows Walk c.args.engine.now c.args.number _
    (λ rows. rw (p.1, p.2) (prefix_none (g.K.Sink.taken c.args.out.now) (lines_of rows), omega (arith, c.start.ensures.steps)))

pub returns-clause-rows : goal.returns-clause-rows
returns-clause-rows g c =
    let given = to_give c.args.engine.now c.in_ok-pulling.pulling.left c.in_ok-pulling.pulling.cursor in
    let end = c.events-end.result - 1 in
    rows_pulled_at Walk c.args.engine.now c.args.number end given given _ c.in_ok-pulling.ensures.answers (IsPermutation-refl given) (λ once. tt)
    (λ events stands. ap (λ (n : ℕ). n - 1) (c.events-end.ensures.length events stands))
    (wrote_later (g.K.Sink.taken c.args.out.now) (g.K.Sink.taken c.write_answers.new.out) (map (row_at c.args.number end) given) (c.start.new.steps + 1)
    (c.args.steps.now + cursor_bound c.args.engine.now c.args.number) c.write_answers.new.steps c.write_answers.result (omega (arith, c.start.ensures.steps)) c.write_answers.ensures.rows)

pub returns-then-not-may_answer-clause-rows : goal.returns-then-not-may_answer-clause-rows
returns-then-not-may_answer-clause-rows g c =
    no_rows_of Walk c.args.engine.now c.args.number _ (c.if-not-may_answer.ensures.none refl) (took_none (g.K.Sink.taken c.args.out.now), omega arith)
