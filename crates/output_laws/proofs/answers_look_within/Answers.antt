use Rattle.output_laws.proofs.EarlierAnswers.{look_within}
use Rattle.output_laws.proofs.answers_look_within.Goals as goal

pub returns : goal.returns
returns c = look_within
