use Rattle.std.proofs.Common.{◌≡◌, ◌-◌, ◌≤◌, length}
use Rattle.query_standing.specs.Giving.{AreRemoved}
use Rattle.query_state.specs.Dropping.{rows_of, HaveLists}
use Rattle.query_state.proofs.dropping.remove_all.Given as goal

-- the keys from the one that was looked at last on have lists, and those without are removed
abbrev pub invariant-loop-k : goal.invariant-loop-k
invariant-loop-k l =
    AreRemoved l.fn.keys (rows_of l.fn.lists.items) l.fn.told l.keys (rows_of l.lists.items) l.now
    × (length l.keys ≡ length l.lists.items)
    × (l.count - l.k ≤ length l.lists.items)
    × HaveLists (l.count - l.k) (rows_of l.lists.items) l.now
