use Rattle.event_run.proofs.TwoFiles.{two_files}
use Rattle.event_run.proofs.laws.files_follow.Goals as goal

pub returns : goal.returns
returns c = two_files
