use Rattle.query_leaves.proofs.Numbered.{one_numbered}
use Rattle.query_leaves.proofs.numbering.numbered_leaf.Goals as goal

pub returns-clause-leaves : goal.returns-clause-leaves
returns-clause-leaves c = one_numbered c.args.schema.now c.args.above.now c.args.occurrence.now c.in_ok-leaf.leaf c.args.list.now.items c.push.new.self.items c.args.made.now.items c.leaf_here.new.made.items c.in_ok-push.ensures.items c.in_ok-leaf.ensures.leaf c.in_ok-leaf.ensures.kept
