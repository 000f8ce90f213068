use Rattle.std.proofs.Common.{arith, ◌+◌}
use Rattle.event_update.specs.ActiveLists.{keys}
use Rattle.event_update.proofs.Recalled.{copied_next}
use Rattle.event_update.proofs.recall.states_of.Goals as goal

pub loop-k-preserved : goal.loop-k-preserved
loop-k-preserved c = copied_next (keys c.args.active.now) _ _ c.loop-k.k (c.loop-k.k + 1) _ (omega arith) c.loop-k.invariant c.state.ensures c.in_ok-push.ensures.ok
