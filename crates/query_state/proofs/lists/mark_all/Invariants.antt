use Rattle.std.proofs.Common.{All}
use Rattle.cea_determinise.specs.LazyDfa.{Table}
use Rattle.event_update.specs.ActiveLists.{keys}
use Rattle.event_update.specs.Dormancy.{IsDormantState}
use Rattle.query_state.specs.Matches.{AreDormantStates}
use Rattle.query_state.proofs.lists.mark_all.Given as goal

-- what is marked so far is still, where all states of the lists are
abbrev pub invariant-loop-k : goal.invariant-loop-k
invariant-loop-k l = (t : Table) → AreDormantStates t l.fn.dormant_states.items → All (IsDormantState t) (keys l.active) → AreDormantStates t l.dormant_states.items
