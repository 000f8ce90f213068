use Rattle.std.proofs.Common.{◌≡◌, true, false, take, All, slice_index_or}
use Rattle.event_update.specs.ActiveLists.{keys}
use Rattle.query_state.proofs.lists.are_dormant_states.Given as goal

-- the first k states are known to be dormant
abbrev pub invariant-loop-k : goal.invariant-loop-k
invariant-loop-k l = All (λ n. slice_index_or l.dormant_states n false ≡ true) (take l.k (keys l.active))
