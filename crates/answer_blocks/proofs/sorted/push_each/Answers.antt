-- A block more.
use Rattle.std.proofs.Common.{length, take, ◌≡◌, List, ℕ, ◌+◌, ◌-◌, ◌≤◌, ◌++◌, ◌∙◌, refl, sym, ap, subst, append_assoc, slice_index_or, arith}
use Rattle.answer_text.specs.declared.Order.TheVariants.{Sorted}
use Rattle.answer_text.specs.OutputRows.{lines_of}
use Rattle.query_engine.proofs.Named.{among_at}
use Rattle.query_engine.specs.Bounds.{for_each_query}
use Rattle.answer_blocks.specs.Blocks.{HasBlock, HasBlocks}
use Rattle.answer_blocks.specs.RowSteps.{row_delays, HasRows, HasRowsAt}
use Rattle.answer_blocks.proofs.Joined.{blocks_more, all_blocks}
use Rattle.answer_blocks.proofs.Skipped.{done_to, IsNext, is_next, none_left, done_within, skip_blocks, skip_rows}
use Rattle.std.proofs.lemmas.Result.{err_from_is_err_and}
use Rattle.query_engine.specs.Counts.{cursor_bound}
use Rattle.answer_blocks.proofs.Counting.{rows_more, rows_cut, all_rows, text_more, text_failed, text_done, text_grows}
use Rattle.answer_blocks.proofs.Texts.{starts_after}
use Rattle.answer_blocks.proofs.sorted.push_each.Goals as goal

behind : (start text now front back : List ℕ) → text ≡ start ++ front → now ≡ text ++ back → now ≡ start ++ (front ++ back)
behind start text now front back before is = is ∙ ap (λ (l : List ℕ). l ++ back) before ∙ append_assoc start front back

pub push_block-requires-clause-numbered : goal.push_block-requires-clause-numbered
push_block-requires-clause-numbered g c = c.answering-numbers.ensures.within (slice_index_or c.answering-numbers.result.now c.loop-number.number-index 0) (among_at c.answering-numbers.result.now c.loop-number.number-index c.loop-number-test.true)

pub loop-number-preserved : goal.loop-number-preserved
loop-number-preserved g c =
    let engine = c.args.engine.now in
    let numbers = c.answering-numbers.result.now in
    let i = c.loop-number.number-index in
    let n = slice_index_or numbers i 0 in
    let next : IsNext engine numbers i n = is_next Sorted engine numbers c.answering-numbers.ensures i n c.loop-number-test.true refl in
    let low = next.low in
    let high = next.high in
    let whole : n ≡ n - 1 + 1 = omega arith in
    let blocks = skip_blocks Sorted engine numbers c.answering-numbers.ensures (λ bytes. c.loop-number.text.items ≡ c.args.text.now.items ++ bytes) (done_to numbers i) (n - 1) next.after (omega arith) next.between c.loop-number.invariant.blocks in
    let rows = skip_rows Sorted engine numbers c.answering-numbers.ensures (λ k rows. (c.loop-number.text.items ≡ c.args.text.now.items ++ lines_of rows) × (c.loop-number.steps ≤ c.args.steps.now + for_each_query k (cursor_bound engine) + row_delays rows))
    (λ k rows p. (p.0, text_grows rows c.args.steps.now c.loop-number.steps k (cursor_bound engine) p.1))
    (done_to numbers i) (n - 1) next.after (omega arith) next.between c.loop-number.invariant.rows in
    record {
      blocks =
          subst (λ m. HasBlocks Sorted engine (take m engine.queries) (λ bytes. c.push_block.new.text.items ≡ c.args.text.now.items ++ bytes)) (sym next.next)
          (blocks_more Sorted engine (λ bytes. c.loop-number.text.items ≡ c.args.text.now.items ++ bytes) (λ bytes. c.push_block.new.text.items ≡ c.loop-number.text.items ++ bytes)
          (λ bytes. c.push_block.new.text.items ≡ c.args.text.now.items ++ bytes) (n - 1) (omega arith) blocks
          (subst (λ m. HasBlock Sorted engine m (λ bytes. c.push_block.new.text.items ≡ c.loop-number.text.items ++ bytes)) whole c.in_ok-push_block.ensures.block)
          (λ front back before is. behind c.args.text.now.items c.loop-number.text.items c.push_block.new.text.items front back before is));
      rows =
          subst (λ m. HasRowsAt Sorted engine (take m engine.queries) (λ rows. (c.push_block.new.text.items ≡ c.args.text.now.items ++ lines_of rows) × (c.push_block.new.steps ≤ c.args.steps.now + for_each_query m (cursor_bound engine) + row_delays rows))) (sym next.next)
          (rows_more Sorted engine _ _ _ (n - 1) (omega arith) rows
          (subst (λ m. HasRows Sorted engine m (λ rows. (c.push_block.new.text.items ≡ c.loop-number.text.items ++ lines_of rows) × (c.push_block.new.steps ≤ c.loop-number.steps + cursor_bound engine m + row_delays rows))) whole c.in_ok-push_block.ensures.rows)
          (λ front back p q. text_more c.args.text.now.items c.loop-number.text.items c.push_block.new.text.items front back c.args.steps.now c.loop-number.steps c.push_block.new.steps (n - 1) (cursor_bound engine) p q));
      kept = starts_after c.args.text.now.items c.loop-number.text.items c.push_block.new.text.items c.loop-number.invariant.kept c.push_block.ensures.kept;
    }

pub returns-in_err-push_block-clause-rows : goal.returns-in_err-push_block-clause-rows
returns-in_err-push_block-clause-rows g c =
    let engine = c.args.engine.now in
    let numbers = c.answering-numbers.result.now in
    let i = c.loop-number.number-index in
    let n = slice_index_or numbers i 0 in
    let next : IsNext engine numbers i n = is_next Sorted engine numbers c.answering-numbers.ensures i n c.loop-number-test.true refl in
    let low = next.low in
    let high = next.high in
    let whole : n ≡ n - 1 + 1 = omega arith in
    let rows = skip_rows Sorted engine numbers c.answering-numbers.ensures (λ k rows. (c.loop-number.text.items ≡ c.args.text.now.items ++ lines_of rows) × (c.loop-number.steps ≤ c.args.steps.now + for_each_query k (cursor_bound engine) + row_delays rows))
    (λ k rows p. (p.0, text_grows rows c.args.steps.now c.loop-number.steps k (cursor_bound engine) p.1))
    (done_to numbers i) (n - 1) next.after (omega arith) next.between c.loop-number.invariant.rows in
    let p = err_from_is_err_and c.from_residual.result c.from_residual.ensures.1 in
    rows_cut Sorted engine _ _ _ (n - 1) (omega arith) rows
    (subst (λ m. HasRows Sorted engine m (λ rows. Unit {0} × (c.push_block.new.steps ≤ c.loop-number.steps + cursor_bound engine m + row_delays rows))) whole c.in_err-push_block.ensures.rows)
    (λ front back rest before here. rw p.1 (
      tt,
      text_failed front back rest c.args.steps.now c.loop-number.steps c.push_block.new.steps (n - 1) (length engine.queries) (cursor_bound engine) (omega arith) before.1 here.1,
    ))

pub returns-clause-blocks : goal.returns-clause-blocks
returns-clause-blocks g c =
    let engine = c.args.engine.now in
    let numbers = c.answering-numbers.result.now in
    let i = c.loop-number.number-index in
    let upto = done_within Sorted engine numbers c.answering-numbers.ensures i (omega arith) in
    all_blocks Sorted engine _ (length engine.queries) (omega arith)
    (skip_blocks Sorted engine numbers c.answering-numbers.ensures (λ bytes. c.loop-number.text.items ≡ c.args.text.now.items ++ bytes) (done_to numbers i) (length engine.queries) upto (omega arith)
    (λ k from less. none_left Sorted engine numbers c.answering-numbers.ensures i k (omega arith) (omega arith) from) c.loop-number.invariant.blocks)

pub returns-clause-rows : goal.returns-clause-rows
returns-clause-rows g c =
    let engine = c.args.engine.now in
    let numbers = c.answering-numbers.result.now in
    let i = c.loop-number.number-index in
    let upto = done_within Sorted engine numbers c.answering-numbers.ensures i (omega arith) in
    all_rows Sorted engine _ _ (length engine.queries) (omega arith)
    (λ rows h. text_done c.loop-number.text.items c.args.text.now.items rows c.args.steps.now c.loop-number.steps (length engine.queries) (length engine.queries) (cursor_bound engine) (omega arith) h)
    (skip_rows Sorted engine numbers c.answering-numbers.ensures (λ k rows. (c.loop-number.text.items ≡ c.args.text.now.items ++ lines_of rows) × (c.loop-number.steps ≤ c.args.steps.now + for_each_query k (cursor_bound engine) + row_delays rows))
    (λ k rows p. (p.0, text_grows rows c.args.steps.now c.loop-number.steps k (cursor_bound engine) p.1))
    (done_to numbers i) (length engine.queries) upto (omega arith)
    (λ k from less. none_left Sorted engine numbers c.answering-numbers.ensures i k (omega arith) (omega arith) from) c.loop-number.invariant.rows)
