-- The blocks of the queries up to the last number are taken, and no write has failed.
use Rattle.std.proofs.Common.{◌≡◌, ◌+◌, ◌≤◌, take}
use Rattle.cer_outside.specs.Bytes.{TookAll}
use Rattle.answer_text.specs.declared.Order.TheVariants.{Walk}
use Rattle.answer_text.specs.OutputRows.{lines_of}
use Rattle.query_engine.specs.Bounds.{for_each_query}
use Rattle.query_engine.specs.Counts.{cursor_bound}
use Rattle.answer_blocks.specs.Blocks.{HasBlocks}
use Rattle.answer_blocks.specs.RowSteps.{row_delays, HasRowsAt}
use Rattle.answer_blocks.proofs.Skipped.{done_to}
use Rattle.answer_blocks.proofs.walk.write_blocks.Given as goal

abbrev pub invariant-loop-number : goal.invariant-loop-number
invariant-loop-number g l = record {
  took : HasBlocks Walk l.engine (take (done_to l.numbers l.number-index) l.engine.queries) (λ bytes. TookAll (g.K.Sink.taken l.fn.out) (g.K.Sink.taken l.out) bytes);
  rows : HasRowsAt Walk l.engine (take (done_to l.numbers l.number-index) l.engine.queries) (λ rows. TookAll (g.K.Sink.taken l.fn.out) (g.K.Sink.taken l.out) (lines_of rows)
      × (l.steps ≤ l.fn.steps + for_each_query (done_to l.numbers l.number-index) (cursor_bound l.engine) + row_delays rows));
  counted : g.K.Sink.faults l.out ≡ g.K.Sink.faults l.fn.out;
}
