use Rattle.std.proofs.Common.{◌∙◌, ap, sym, arith}
use Rattle.cer_base.specs.declared.node.Stamp.{Stamp}
use Rattle.cer_base.specs.Nodes.{tree}
use Rattle.cer_base.proofs.Trees.{max-tree}
use Rattle.cer_base.proofs.Walks.{starts-upto, newest_is_start}
use Rattle.tecs_nodes.proofs.max_start.Goals as goal

pub returns-clause-max : goal.returns-clause-max
returns-clause-max g c = c.max.ensures ∙ max-tree _ c.requires.well_formed c.args.id c.get.result c.get.ensures.node

pub returns-clause-greatest : goal.returns-clause-greatest
returns-clause-greatest g c =
    let same = c.max.ensures ∙ max-tree _ c.requires.well_formed c.args.id c.get.result c.get.ensures.node in
    let e = ap (λ (s : Stamp). s.pos) same in
    starts-upto (tree (g.S.NodeStore.nodes c.args.store.now) c.args.id) c.max.result.pos (omega arith)

pub returns-clause-among : goal.returns-clause-among
returns-clause-among g c =
    let same = c.max.ensures ∙ max-tree _ c.requires.well_formed c.args.id c.get.result c.get.ensures.node in
    let h = newest_is_start (tree (g.S.NodeStore.nodes c.args.store.now) c.args.id) in
    (h.0, h.1, h.2 ∙ sym same)
