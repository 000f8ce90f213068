use Rattle.event_update.proofs.Dormant.{dormant_stay}
use Rattle.event_update.proofs.dormancy.dormant_lists_stay_dormant.Goals as goal

pub returns : goal.returns
returns c = dormant_stay
