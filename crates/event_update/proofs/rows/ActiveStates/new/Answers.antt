use Rattle.event_update.proofs.Finding.{distinct_none}
use Rattle.event_update.proofs.rows.ActiveStates.new.Goals as goal

pub invariant_of-result : goal.invariant_of-result
invariant_of-result c = distinct_none c.new.result.items c.new.ensures.items
