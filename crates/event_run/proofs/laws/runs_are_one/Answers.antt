use Rattle.event_run.proofs.ForCallers.{one_run_of_trees}
use Rattle.event_run.proofs.laws.runs_are_one.Goals as goal

pub returns : goal.returns
returns c = λ schema ps qs most_bytes bytes events again stop halt same one other. one_run_of_trees schema ps qs most_bytes bytes events again stop halt same one other
