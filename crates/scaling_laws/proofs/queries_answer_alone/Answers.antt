use Rattle.scaling_laws.proofs.OneQuery.{answers_alone}
use Rattle.scaling_laws.proofs.queries_answer_alone.Goals as goal

pub returns : goal.returns
returns c = answers_alone
