use Rattle.cer_base.specs.Bits.{has}
use Rattle.cea_determinise.proofs.Below.{either_first, either_second}
use Rattle.cea_determinise.proofs.successor.have_leaf.Goals as goal

pub returns-then-some_leaf : goal.returns-then-some_leaf
returns-then-some_leaf c = either_first c.args.cea.now.size (has c.args.fresh.now) (has c.args.waiting.now) _ c.if-some_leaf.true c.if-some_leaf.ensures

pub returns-else-some_leaf : goal.returns-else-some_leaf
returns-else-some_leaf c = either_second c.args.cea.now.size (has c.args.fresh.now) (has c.args.waiting.now) _ c.some_leaf-else-some_leaf.ensures c.if-some_leaf.ensures
