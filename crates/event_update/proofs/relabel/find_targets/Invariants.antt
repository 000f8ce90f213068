use Rattle.std.proofs.Common.{take}
use Rattle.cea_determinise.specs.Rows.{GoTo}
use Rattle.event_update.proofs.relabel.find_targets.Given as goal

-- the lists of the first k moves go to the states so far
abbrev pub invariant-loop-k : goal.invariant-loop-k
invariant-loop-k l = GoTo l.targets (take l.k l.moves)
