use Rattle.output_laws.proofs.Growth.{output_unchanged}
use Rattle.output_laws.proofs.later_events_change_no_output.Goals as goal

pub returns : goal.returns
returns c = output_unchanged
