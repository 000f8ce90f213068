use Rattle.output_laws.proofs.EarlierAnswers.{look_back}
use Rattle.output_laws.proofs.answers_look_back.Goals as goal

pub returns : goal.returns
returns c = look_back
