use Rattle.output_laws.proofs.After.{in_two_parts}
use Rattle.output_laws.proofs.output_is_in_two_parts.Goals as goal

pub returns : goal.returns
returns c = in_two_parts
