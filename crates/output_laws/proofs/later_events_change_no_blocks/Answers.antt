use Rattle.output_laws.proofs.Growth.{blocks_unchanged}
use Rattle.output_laws.proofs.later_events_change_no_blocks.Goals as goal

pub returns : goal.returns
returns c = blocks_unchanged
