use Rattle.output_laws.proofs.Unique.{one_output}
use Rattle.output_laws.proofs.sorted_output_is_unique.Goals as goal

pub returns : goal.returns
returns c = one_output
