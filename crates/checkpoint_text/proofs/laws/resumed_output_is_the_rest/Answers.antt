use Rattle.checkpoint_text.proofs.GoingOn.{resumed_is_rest}
use Rattle.checkpoint_text.proofs.laws.resumed_output_is_the_rest.Goals as goal

pub returns : goal.returns
returns c = resumed_is_rest
