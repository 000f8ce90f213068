use Rattle.std.proofs.Common.{arith, ◌∙◌, ap, ◌+◌}
use Rattle.cer_base.specs.declared.node.Node.TheVariants.{Output}
use Rattle.cer_base.proofs.Trees.{pushed-grows, pushed-node, output-grows, max-tree, need-tree}
use Rattle.cer_base.proofs.Walks.{need-upto}
use Rattle.tecs_nodes.proofs.extend.Goals as goal

pub overflow_add-need : goal.overflow_add-need
overflow_add-need g c =
    let nodes = g.S.NodeStore.nodes c.args.store.now in
    let same = c.need.ensures ∙ need-tree nodes c.requires.well_formed c.args.id c.get-child.result c.get-child.ensures.node in
    let bound = need-upto nodes c.requires.well_formed c.args.id c.requires.inside in
    omega arith

pub returns-clause-made : goal.returns-clause-made
returns-clause-made g c = pushed-node c.push.result _ _ (Output _ _ _ _) c.push.ensures.id c.push.ensures.appended

pub returns-clause-grows : goal.returns-clause-grows
returns-clause-grows g c =
    let nodes = g.S.NodeStore.nodes c.args.store.now in
    pushed-grows c.push.result _ _ (Output _ _ _ _) c.push.ensures.appended c.push.ensures.refused c.requires.well_formed
    (output-grows nodes c.args.pos c.args.id _ _ c.requires.well_formed c.requires.inside
    (c.max.ensures ∙ max-tree nodes c.requires.well_formed c.args.id c.get-child.result c.get-child.ensures.node)
    (ap (λ k. k + 1) (c.need.ensures ∙ need-tree nodes c.requires.well_formed c.args.id c.get-child.result c.get-child.ensures.node))
    c.requires.after)
