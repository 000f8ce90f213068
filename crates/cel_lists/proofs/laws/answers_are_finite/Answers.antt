use Rattle.cel_lists.proofs.Answering.{some_answers_are}
use Rattle.cel_lists.proofs.laws.answers_are_finite.Goals as goal

pub returns : goal.returns
returns c = some_answers_are
