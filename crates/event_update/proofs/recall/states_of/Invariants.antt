use Rattle.std.proofs.Common.{◌≡◌, take}
use Rattle.event_update.specs.ActiveLists.{keys}
use Rattle.event_update.proofs.recall.states_of.Given as goal

-- the first k are copied
abbrev pub invariant-loop-k : goal.invariant-loop-k
invariant-loop-k l = l.states.items ≡ take l.k (keys l.active)
