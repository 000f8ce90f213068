use Rattle.event_reader.proofs.RefusedLines.{ArePassed}
use Rattle.event_reader.proofs.refusals.bad_value.Given as goal

abbrev pub invariant-loop-i : goal.invariant-loop-i
invariant-loop-i l = ArePassed l.kinds l.fields l.i l.rest
