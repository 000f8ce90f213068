use Rattle.event_update.proofs.Moving.{distinct_nothing}
use Rattle.event_update.proofs.relabel.Apart.new.Goals as goal

pub invariant_of-result : goal.invariant_of-result
invariant_of-result c = distinct_nothing c.new.result.items c.new.ensures.items
