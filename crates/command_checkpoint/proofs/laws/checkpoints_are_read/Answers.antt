use Rattle.command_checkpoint.proofs.ReadAgain.{is_read}
use Rattle.command_checkpoint.proofs.laws.checkpoints_are_read.Goals as goal

pub returns : goal.returns
returns c = is_read c.keepers_keep.ensures c.saved_is_read.ensures
