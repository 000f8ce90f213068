use Rattle.std.proofs.Common.{get_or, arith, sym}
use Rattle.event_reader.proofs.RefusedLines.{counted_more, counted_open, counted_closed, still_few}
use Rattle.event_reader.proofs.fields.count_values.Goals as goal

pub loop-byte-preserved : goal.loop-byte-preserved
loop-byte-preserved c = record {
  few = rw (c.with_end-count.ensures) (still_few c.loop-byte.state (get_or c.args.line.now c.loop-byte.byte-index 0) c.loop-byte.count c.loop-byte.byte-index c.loop-byte.invariant.few);
  read = rw (c.past-state.ensures, c.with_end-count.ensures) (counted_more c.args.line.now c.loop-byte.state c.loop-byte.count c.loop-byte.byte-index c.loop-byte-test.true c.loop-byte.invariant.read);
}

pub returns-then-is_inside-clause-open : goal.returns-then-is_inside-clause-open
returns-then-is_inside-clause-open c =
    counted_open c.args.line.now c.loop-byte.state c.loop-byte.count c.loop-byte.byte-index (omega (arith, c.loop-byte-test.false)) c.loop-byte.invariant.read (sym c.if-is_inside.ensures)

pub returns-else-is_inside-clause-count : goal.returns-else-is_inside-clause-count
returns-else-is_inside-clause-count c =
    counted_closed c.args.line.now c.loop-byte.state c.loop-byte.count c.loop-byte.byte-index (omega (arith, c.loop-byte-test.false)) c.loop-byte.invariant.read (sym c.if-is_inside.ensures)
