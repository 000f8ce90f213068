use Rattle.event_update.specs.ActiveLists.{keys}
use Rattle.event_update.specs.Dormancy.{IsDormantState}
use Rattle.query_standing.proofs.Lists.{got}
use Rattle.std.proofs.lemmas.List.Elements.{All-contains}
use Rattle.query_state.proofs.lists.mark_all.Goals as goal

pub loop-k-preserved : goal.loop-k-preserved
loop-k-preserved c t dormant_states all = c.mark.ensures t (c.loop-k.invariant t dormant_states all) (All-contains (IsDormantState t) (keys c.args.active.now) c.state.result all (got (keys c.args.active.now) c.loop-k.k c.state.result c.state.ensures))
