use Rattle.std.proofs.Common.{◌≡◌, take, length}
use Rattle.event_update.proofs.Moving.{moved_upto}
use Rattle.event_update.proofs.rows.write_states.Given as goal

-- the first k states are written
abbrev pub invariant-loop-k : goal.invariant-loop-k
invariant-loop-k l = l.rows.items ≡ moved_upto l.k l.states (take (length l.states) l.fn.rows.items)
