-- A block more, or an error in it.
use Rattle.std.proofs.Common.{◌≡◌, ◌+◌, ◌-◌, ◌≤◌, Err, take, length, refl, sym, subst, slice_index_or, ◌∙◌, arith}
use Rattle.std.proofs.lemmas.Result.{err_from_is_err_and}
use Rattle.cer_outside.specs.Bytes.{TookAll}
use Rattle.answer_text.specs.declared.Order.TheVariants.{Walk}
use Rattle.query_engine.specs.Counts.{cursor_bound, cursor_bounds}
use Rattle.answer_text.specs.OutputRows.{lines_of}
use Rattle.query_engine.proofs.Named.{among_at}
use Rattle.query_engine.specs.Bounds.{for_each_query}
use Rattle.answer_blocks.specs.Blocks.{HasBlock, HasBlocks}
use Rattle.answer_blocks.specs.RowSteps.{row_delays, HasRows, HasRowsAt, WroteRows}
use Rattle.answer_blocks.specs.SinkBytes.{TookBy}
use Rattle.answer_blocks.proofs.Counting.{rows_more, rows_cut, all_rows, one_block_more, one_block_failed, all_done, text_grows}
use Rattle.answer_blocks.proofs.Joined.{blocks_more, blocks_cut, all_blocks}
use Rattle.answer_blocks.proofs.Skipped.{done_to, IsNext, is_next, none_left, done_within, skip_blocks, skip_rows}
use Rattle.answer_blocks.proofs.Writing.{all_after, block_failed}
use Rattle.answer_blocks.proofs.walk.write_blocks.Goals as goal

pub write_block-requires-clause-numbered : goal.write_block-requires-clause-numbered
write_block-requires-clause-numbered g c = c.answering-numbers.ensures.within (slice_index_or c.answering-numbers.result.now c.loop-number.number-index 0) (among_at c.answering-numbers.result.now c.loop-number.number-index c.loop-number-test.true)

pub returns-in_err-write_block-clause-took : goal.returns-in_err-write_block-clause-took
returns-in_err-write_block-clause-took g c events stands =
    let p = err_from_is_err_and c.from_residual.result c.from_residual.ensures.1 in
    let engine = c.args.engine.now in
    let numbers = c.answering-numbers.result.now in
    let i = c.loop-number.number-index in
    let n = slice_index_or numbers i 0 in
    let next : IsNext engine numbers i n = is_next Walk engine numbers c.answering-numbers.ensures i n c.loop-number-test.true refl in
    let low = next.low in
    let high = next.high in
    let whole : n ≡ n - 1 + 1 = omega arith in
    let first = g.K.Sink.taken c.args.out.now in
    let middle = g.K.Sink.taken c.loop-number.out in
    let last = g.K.Sink.taken c.write_block.new.out in
    let blocks = skip_blocks Walk engine numbers c.answering-numbers.ensures (λ bytes. TookAll first middle bytes) (done_to numbers i) (n - 1) next.after (omega arith) next.between c.loop-number.invariant.took in
    let e = c.in_err-write_block.field-0.0 in
    rw (p.1, p.2) ((blocks_cut Walk engine (λ bytes. TookAll first middle bytes) (λ bytes. TookBy {T = Unit {0}} middle last bytes (Err e)) (λ bytes. TookBy {T = Unit {0}} first last bytes (Err e))
    (n - 1) (omega arith) blocks (subst (λ m. HasBlock Walk engine m (λ bytes. TookBy {T = Unit {0}} middle last bytes (Err e))) whole c.in_err-write_block.ensures.took)
    (λ front back rest before here. block_failed first middle last front back rest e before here)).blocks events stands)

pub loop-number-preserved : goal.loop-number-preserved
loop-number-preserved g c =
    let engine = c.args.engine.now in
    let numbers = c.answering-numbers.result.now in
    let i = c.loop-number.number-index in
    let n = slice_index_or numbers i 0 in
    let next : IsNext engine numbers i n = is_next Walk engine numbers c.answering-numbers.ensures i n c.loop-number-test.true refl in
    let low = next.low in
    let high = next.high in
    let whole : n ≡ n - 1 + 1 = omega arith in
    let first = g.K.Sink.taken c.args.out.now in
    let middle = g.K.Sink.taken c.loop-number.out in
    let last = g.K.Sink.taken c.write_block.new.out in
    let blocks = skip_blocks Walk engine numbers c.answering-numbers.ensures (λ bytes. TookAll first middle bytes) (done_to numbers i) (n - 1) next.after (omega arith) next.between c.loop-number.invariant.took in
    let rows = skip_rows Walk engine numbers c.answering-numbers.ensures (λ k rows. TookAll first middle (lines_of rows) × (c.loop-number.steps ≤ c.args.steps.now + for_each_query k (cursor_bound engine) + row_delays rows))
    (λ k rows p. (p.0, text_grows rows c.args.steps.now c.loop-number.steps k (cursor_bound engine) p.1))
    (done_to numbers i) (n - 1) next.after (omega arith) next.between c.loop-number.invariant.rows in
    record {
      took =
          subst (λ m. HasBlocks Walk engine (take m engine.queries) (λ bytes. TookAll first last bytes)) (sym next.next)
          (blocks_more Walk engine (λ bytes. TookAll first middle bytes) (λ bytes. TookAll middle last bytes) (λ bytes. TookAll first last bytes)
          (n - 1) (omega arith) blocks (subst (λ m. HasBlock Walk engine m (λ bytes. TookAll middle last bytes)) whole c.in_ok-write_block.ensures.took) (all_after first middle last));
      rows =
          subst (λ m. HasRowsAt Walk engine (take m engine.queries) (λ rows. TookAll first last (lines_of rows) × (c.write_block.new.steps ≤ c.args.steps.now + for_each_query m (cursor_bound engine) + row_delays rows))) (sym next.next)
          (rows_more Walk engine _ _ _ (n - 1) (omega arith) rows
          (subst (λ m. HasRows Walk engine m (λ rows. TookAll middle last (lines_of rows) × (c.write_block.new.steps ≤ c.loop-number.steps + cursor_bound engine m + row_delays rows))) whole c.in_ok-write_block.ensures.rows)
          (λ front back p q. one_block_more first middle last front back c.args.steps.now c.loop-number.steps c.write_block.new.steps (n - 1) (cursor_bound engine) p q));
      counted = c.in_ok-write_block.ensures.cause ∙ c.loop-number.invariant.counted;
    }

pub returns-in_err-write_block-clause-rows : goal.returns-in_err-write_block-clause-rows
returns-in_err-write_block-clause-rows g c =
    let p = err_from_is_err_and c.from_residual.result c.from_residual.ensures.1 in
    let engine = c.args.engine.now in
    let numbers = c.answering-numbers.result.now in
    let i = c.loop-number.number-index in
    let n = slice_index_or numbers i 0 in
    let next : IsNext engine numbers i n = is_next Walk engine numbers c.answering-numbers.ensures i n c.loop-number-test.true refl in
    let low = next.low in
    let high = next.high in
    let whole : n ≡ n - 1 + 1 = omega arith in
    let first = g.K.Sink.taken c.args.out.now in
    let middle = g.K.Sink.taken c.loop-number.out in
    let last = g.K.Sink.taken c.write_block.new.out in
    let rows = skip_rows Walk engine numbers c.answering-numbers.ensures (λ k rows. TookAll first middle (lines_of rows) × (c.loop-number.steps ≤ c.args.steps.now + for_each_query k (cursor_bound engine) + row_delays rows))
    (λ k rows p. (p.0, text_grows rows c.args.steps.now c.loop-number.steps k (cursor_bound engine) p.1))
    (done_to numbers i) (n - 1) next.after (omega arith) next.between c.loop-number.invariant.rows in
    let e = c.in_err-write_block.field-0.0 in
    rw (p.1, p.2) (rows_cut Walk engine _ _ (λ rows. WroteRows {T = Unit {0}} first last rows (c.args.steps.now + cursor_bounds engine) c.write_block.new.steps (Err e))
    (n - 1) (omega arith) rows
    (subst (λ m. HasRows Walk engine m (λ rows. WroteRows {T = Unit {0}} middle last rows (c.loop-number.steps + cursor_bound engine m) c.write_block.new.steps (Err e))) whole c.in_err-write_block.ensures.rows)
    (λ front back rest before here. one_block_failed first middle last front back rest c.args.steps.now c.loop-number.steps c.write_block.new.steps (n - 1) (length engine.queries) (cursor_bound engine) e (omega arith) before here))

pub returns-clause-took : goal.returns-clause-took
returns-clause-took g c events stands =
    let engine = c.args.engine.now in
    let numbers = c.answering-numbers.result.now in
    let i = c.loop-number.number-index in
    let first = g.K.Sink.taken c.args.out.now in
    let middle = g.K.Sink.taken c.loop-number.out in
    let upto = done_within Walk engine numbers c.answering-numbers.ensures i (omega arith) in
    (all_blocks Walk engine (λ bytes. TookAll first middle bytes) (length engine.queries) (omega arith)
    (skip_blocks Walk engine numbers c.answering-numbers.ensures (λ bytes. TookAll first middle bytes) (done_to numbers i) (length engine.queries) upto (omega arith)
    (λ k from less. none_left Walk engine numbers c.answering-numbers.ensures i k (omega arith) (omega arith) from) c.loop-number.invariant.took)).blocks events stands

pub returns-clause-rows : goal.returns-clause-rows
returns-clause-rows g c =
    let engine = c.args.engine.now in
    let numbers = c.answering-numbers.result.now in
    let i = c.loop-number.number-index in
    let first = g.K.Sink.taken c.args.out.now in
    let middle = g.K.Sink.taken c.loop-number.out in
    let upto = done_within Walk engine numbers c.answering-numbers.ensures i (omega arith) in
    all_rows Walk engine _ _ (length engine.queries) (omega arith)
    (λ rows h. all_done first middle rows c.args.steps.now c.loop-number.steps (length engine.queries) (length engine.queries) (cursor_bound engine) (omega arith) h)
    (skip_rows Walk engine numbers c.answering-numbers.ensures (λ k rows. TookAll first middle (lines_of rows) × (c.loop-number.steps ≤ c.args.steps.now + for_each_query k (cursor_bound engine) + row_delays rows))
    (λ k rows p. (p.0, text_grows rows c.args.steps.now c.loop-number.steps k (cursor_bound engine) p.1))
    (done_to numbers i) (length engine.queries) upto (omega arith)
    (λ k from less. none_left Walk engine numbers c.answering-numbers.ensures i k (omega arith) (omega arith) from) c.loop-number.invariant.rows)
