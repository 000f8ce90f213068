use Rattle.cer_base.specs.declared.node.Node.TheVariants.{Bottom}
use Rattle.cer_base.proofs.Trees.{pushed-bottom, pushed-node}
use Rattle.tecs_nodes.proofs.bottom.Goals as goal

pub returns-clause-made : goal.returns-clause-made
returns-clause-made g c = pushed-node c.push.result _ _ (Bottom c.args.stamp) c.push.ensures.id c.push.ensures.appended

pub returns-clause-well_formed : goal.returns-clause-well_formed
returns-clause-well_formed g c = pushed-bottom c.push.result _ _ c.args.stamp c.push.ensures.appended c.push.ensures.refused c.requires.well_formed c.requires.in_step
