use Rattle.output_laws.proofs.After.{after_is_from}
use Rattle.output_laws.proofs.output_after_is_from_there.Goals as goal

pub returns : goal.returns
returns c = after_is_from
