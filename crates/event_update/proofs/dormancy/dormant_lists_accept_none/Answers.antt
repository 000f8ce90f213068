use Rattle.event_update.proofs.Dormant.{dormant_accept_none, none_accepted}
use Rattle.event_update.proofs.dormancy.dormant_lists_accept_none.Goals as goal

pub returns-clause-dormant : goal.returns-clause-dormant
returns-clause-dormant c = dormant_accept_none

pub returns-clause-accepting : goal.returns-clause-accepting
returns-clause-accepting c = none_accepted
