use Rattle.cea_compile.proofs.Accepted.{answers_are_accepted}
use Rattle.cea_compile.proofs.laws.answers_are_accepted_runs.Goals as goal

pub returns : goal.returns
returns c = answers_are_accepted
