use Rattle.output_laws.proofs.SameTrees.{same_output}
use Rattle.output_laws.proofs.trees_tell_the_output.Goals as goal

pub returns : goal.returns
returns c = same_output
