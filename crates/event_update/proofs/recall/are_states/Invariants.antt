use Rattle.std.proofs.Common.{◌≡◌, take}
use Rattle.event_update.specs.ActiveLists.{keys}
use Rattle.event_update.proofs.recall.are_states.Given as goal

-- the first k are the same
abbrev pub invariant-loop-k : goal.invariant-loop-k
invariant-loop-k l = take l.k (keys l.active) ≡ take l.k l.fn.states
