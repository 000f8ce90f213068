use Rattle.output_laws.proofs.SameTrees.{same_answers}
use Rattle.output_laws.proofs.trees_tell_the_answers.Goals as goal

pub returns : goal.returns
returns c = same_answers
