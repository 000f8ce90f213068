use Rattle.output_laws.proofs.Growth.{block_unchanged}
use Rattle.output_laws.proofs.later_events_change_no_block.Goals as goal

pub returns : goal.returns
returns c = block_unchanged
