use Rattle.event_update.proofs.Dormant.{unchanged_rest}
use Rattle.event_update.proofs.dormancy.unchanged_lists_are_dormant.Goals as goal

pub returns : goal.returns
returns c = unchanged_rest
