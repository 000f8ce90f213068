use Rattle.output_laws.proofs.Growth.{output_grows_by_blocks}
use Rattle.output_laws.proofs.one_more_event_adds_its_blocks.Goals as goal

pub returns : goal.returns
returns c = output_grows_by_blocks
