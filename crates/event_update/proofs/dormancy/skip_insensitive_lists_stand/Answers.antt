use Rattle.event_update.proofs.SkipInsensitive.{skip_insensitive_stand}
use Rattle.event_update.proofs.dormancy.skip_insensitive_lists_stand.Goals as goal

pub returns : goal.returns
returns c = skip_insensitive_stand
