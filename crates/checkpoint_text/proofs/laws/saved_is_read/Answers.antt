use Rattle.checkpoint_text.proofs.KeptStreams.{saved_is_read}
use Rattle.checkpoint_text.proofs.laws.saved_is_read.Goals as goal

pub returns : goal.returns
returns c = saved_is_read
