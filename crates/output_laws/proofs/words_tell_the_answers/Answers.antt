use Rattle.output_laws.proofs.SameWords.{same_answers}
use Rattle.output_laws.proofs.words_tell_the_answers.Goals as goal

pub returns : goal.returns
returns c = same_answers
