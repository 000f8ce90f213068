use Rattle.std.proofs.Common.{take}
use Rattle.event_update.specs.Update.{IsOther}
use Rattle.event_update.proofs.relabel.Apart.is_other.Given as goal

-- the state is none of the first k
abbrev pub invariant-loop-k : goal.invariant-loop-k
invariant-loop-k l = IsOther l.state (take l.k l.states)
