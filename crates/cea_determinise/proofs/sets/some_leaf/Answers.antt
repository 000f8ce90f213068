use Rattle.cea_determinise.proofs.Below.{empty_tells}
use Rattle.cea_determinise.proofs.sets.some_leaf.Goals as goal

pub returns : goal.returns
returns c = empty_tells c.args.cea.now.size c.args.set.now c.is_empty.result c.requires c.is_empty.ensures.empty c.is_empty.ensures.some
