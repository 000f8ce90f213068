use Rattle.std.proofs.Common.{◌∙◌}
use Rattle.cer_base.proofs.Trees.{max-tree, need-tree}
use Rattle.set_tests.proofs.parts.root_of.Goals as goal

pub returns-clause-root : goal.returns-clause-root
returns-clause-root g c = record {
  inside = c.requires.inside;
  is_max = c.max.ensures ∙ max-tree _ c.requires.well_formed c.args.id c.get-node.result c.get-node.ensures.node;
  is_need = c.need.ensures ∙ need-tree _ c.requires.well_formed c.args.id c.get-node.result c.get-node.ensures.node;
}
