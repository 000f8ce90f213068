use Rattle.event_update.proofs.Dormant.{dormant_stand}
use Rattle.event_update.proofs.dormancy.dormant_lists_stand.Goals as goal

pub returns : goal.returns
returns c = dormant_stand
