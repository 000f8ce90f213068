use Rattle.std.proofs.Common.{◌<◌}
use Rattle.event_update.proofs.recall.row_number.Given as goal

-- the number stays small
abbrev pub invariant-loop-k : goal.invariant-loop-k
invariant-loop-k l = l.number < 256
