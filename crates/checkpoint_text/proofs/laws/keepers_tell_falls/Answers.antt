use Rattle.checkpoint_text.proofs.CameKeepers.{keepers_tell_falls}
use Rattle.checkpoint_text.proofs.laws.keepers_tell_falls.Goals as goal

pub returns : goal.returns
returns c = keepers_tell_falls
