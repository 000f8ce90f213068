use Rattle.std.proofs.Common.{arith, ◌≡◌, ◌∙◌, ◌+◌, max}
use Rattle.cer_base.specs.declared.node.Node.TheVariants.{Union}
use Rattle.cer_base.specs.Members.{need}
use Rattle.cer_base.specs.Nodes.{tree}
use Rattle.cer_base.proofs.Trees.{pushed-grows, pushed-node, union-grows, max-tree, need-tree}
use Rattle.cer_base.proofs.Walks.{need-upto}
use Rattle.tecs_nodes.proofs.join.Goals as goal

pub overflow_add-need : goal.overflow_add-need
overflow_add-need g c =
    let nodes = g.S.NodeStore.nodes c.args.store.now in
    let same = c.need.ensures ∙ need-tree nodes c.requires.well_formed c.args.left c.get-first.result c.get-first.ensures.node in
    let bound = need-upto nodes c.requires.well_formed c.args.left c.requires.left_inside in
    omega arith

pub returns-clause-made : goal.returns-clause-made
returns-clause-made g c = pushed-node c.push.result _ _ (Union _ _ _ _ _) c.push.ensures.id c.push.ensures.appended

pub returns-clause-grows : goal.returns-clause-grows
returns-clause-grows g c =
    let nodes = g.S.NodeStore.nodes c.args.store.now in
    let w = c.requires.well_formed in
    let one = c.need.ensures ∙ need-tree nodes w c.args.left c.get-first.result c.get-first.ensures.node in
    let two = c.need-2.ensures ∙ need-tree nodes w c.args.right c.get-second.result c.get-second.ensures.node in
    let places : c.max-3.result ≡ max (need (tree nodes c.args.left) + 1) (need (tree nodes c.args.right)) = cc in
    pushed-grows c.push.result _ _ (Union _ _ _ _ _) c.push.ensures.appended c.push.ensures.refused w
    (union-grows nodes c.args.left c.args.right _ _ _ w c.requires.left_inside c.requires.right_inside
    (c.max.ensures ∙ max-tree nodes w c.args.left c.get-first.result c.get-first.ensures.node)
    (c.max-2.ensures ∙ max-tree nodes w c.args.right c.get-second.result c.get-second.ensures.node)
    places
    (w.well_formed_tree c.args.left c.requires.left_inside, w.well_formed_tree c.args.right c.requires.right_inside, c.requires.can))
