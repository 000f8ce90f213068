use Rattle.query_engine.proofs.SmallSizes.{nothing_is_put_by, event_puts_by}
use Rattle.query_engine.proofs.laws.compactions_are_paid.Goals as goal

pub returns-clause-none : goal.returns-clause-none
returns-clause-none c = nothing_is_put_by

pub returns-clause-event : goal.returns-clause-event
returns-clause-event c = event_puts_by
