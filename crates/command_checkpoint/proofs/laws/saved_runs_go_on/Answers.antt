use Rattle.command_checkpoint.proofs.TwoRuns.{two_runs}
use Rattle.command_checkpoint.proofs.laws.saved_runs_go_on.Goals as goal

pub returns : goal.returns
returns c = two_runs
