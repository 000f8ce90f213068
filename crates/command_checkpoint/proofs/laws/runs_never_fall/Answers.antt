use Rattle.command_checkpoint.proofs.Level.{runs_never_fall}
use Rattle.command_checkpoint.proofs.laws.runs_never_fall.Goals as goal

pub returns : goal.returns
returns c = runs_never_fall
