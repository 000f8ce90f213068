use Rattle.output_laws.proofs.Growth.{output_grows}
use Rattle.output_laws.proofs.output_grows_at_its_end.Goals as goal

pub returns : goal.returns
returns c = output_grows
