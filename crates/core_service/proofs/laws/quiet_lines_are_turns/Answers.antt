use Rattle.core_service.proofs.Turns.{quiet_turns}
use Rattle.core_service.proofs.laws.quiet_lines_are_turns.Goals as goal

pub returns : goal.returns
returns c = quiet_turns
