use Rattle.output_laws.proofs.SameWords.{same_output}
use Rattle.output_laws.proofs.words_tell_the_output.Goals as goal

pub returns : goal.returns
returns c = same_output
