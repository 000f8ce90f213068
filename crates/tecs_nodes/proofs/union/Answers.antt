use Rattle.std.proofs.Common.{subst, sym, ◌∙◌, ap, take}
use Rattle.cer_base.specs.Nodes.{Grows}
use Rattle.cer_base.proofs.Trees.{Grows-refl, cut-grows}
use Rattle.tecs_nodes.proofs.Unions.{united_is}
use Rattle.tecs_nodes.proofs.union.Goals as goal

pub returns-then-is_err-clause-grows : goal.returns-then-is_err-clause-grows
returns-then-is_err-clause-grows g c =
    let nodes = g.S.NodeStore.nodes in
    let same = c.cut_to.ensures ∙ ap (λ n. take n (nodes c.unite-united.new.store)) c.len-len.ensures.count ∙ cut-grows (nodes c.args.store.now) (nodes c.unite-united.new.store) c.unite-united.ensures.grows in
    subst (Grows (nodes c.args.store.now)) (sym same) (Grows-refl (nodes c.args.store.now) c.requires.well_formed)

pub returns-else-is_err-clause-union : goal.returns-else-is_err-clause-union
returns-else-is_err-clause-union g c =
    let w = c.requires.well_formed in
    united_is c.unite-united.result _ _ _ _ (w.well_formed_tree _ c.requires.a_inside) (w.well_formed_tree _ c.requires.b_inside) c.requires.can c.unite-united.ensures.made
