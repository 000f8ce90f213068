use Rattle.checkpoint_text.proofs.Keepers.{keepers_keep}
use Rattle.checkpoint_text.proofs.laws.keepers_keep.Goals as goal

pub returns : goal.returns
returns c = keepers_keep
