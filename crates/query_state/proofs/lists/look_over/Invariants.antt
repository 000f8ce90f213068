use Rattle.std.proofs.Common.{◌≡◌, Bool, List, map, take, All}
use Rattle.cea_determinise.specs.LazyDfa.{Table}
use Rattle.query_state.specs.declared.lists.Lists.{Lists}
use Rattle.query_state.specs.Matches.{MayBeDormant, AreDormantStates, active_keys_in}
use Rattle.query_state.proofs.lists.look_over.Given as goal

-- the lists are what they were, and the first k are looked at and counted
abbrev pub invariant-loop-k : goal.invariant-loop-k
invariant-loop-k l =
    (map (λ (x : Lists). x.active.entries) l.lists ≡ map (λ (x : Lists). x.active.entries) l.fn.lists)
    × ((t : Table) (sets : List (List Bool)) → AreDormantStates t l.dormant_states → All (MayBeDormant t sets) (take l.k l.lists))
    × (l.active_keys ≡ active_keys_in (take l.k l.lists))
