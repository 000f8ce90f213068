use Rattle.output_laws.proofs.Growth.{output_begins}
use Rattle.output_laws.proofs.output_begins_with_that_of_the_first.Goals as goal

pub returns : goal.returns
returns c = output_begins
