-- The blocks of the queries up to the last number stand after the text.
use Rattle.std.proofs.Common.{◌≡◌, ◌+◌, ◌≤◌, ◌++◌, take}
use Rattle.answer_text.specs.declared.Order.TheVariants.{Sorted}
use Rattle.answer_text.specs.OutputRows.{lines_of}
use Rattle.answer_text.specs.Texts.{StartsWith}
use Rattle.query_engine.specs.Bounds.{for_each_query}
use Rattle.query_engine.specs.Counts.{cursor_bound}
use Rattle.answer_blocks.specs.Blocks.{HasBlocks}
use Rattle.answer_blocks.specs.RowSteps.{row_delays, HasRowsAt}
use Rattle.answer_blocks.proofs.Skipped.{done_to}
use Rattle.answer_blocks.proofs.sorted.push_each.Given as goal

abbrev pub invariant-loop-number : goal.invariant-loop-number
invariant-loop-number g l = record {
  blocks : HasBlocks Sorted l.engine (take (done_to l.numbers l.number-index) l.engine.queries) (λ bytes. l.text.items ≡ l.fn.text.items ++ bytes);
  rows : HasRowsAt Sorted l.engine (take (done_to l.numbers l.number-index) l.engine.queries) (λ rows. (l.text.items ≡ l.fn.text.items ++ lines_of rows)
      × (l.steps ≤ l.fn.steps + for_each_query (done_to l.numbers l.number-index) (cursor_bound l.engine) + row_delays rows));
  kept : StartsWith l.fn.text.items l.text.items;
}
