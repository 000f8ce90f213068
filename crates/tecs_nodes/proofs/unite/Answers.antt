use Rattle.std.proofs.Common.{arith, subst, sym}
use Rattle.cer_base.specs.Members.{IsWellFormedTree}
use Rattle.cer_base.specs.Nodes.{tree}
use Rattle.tecs_nodes.proofs.Unions.{united-well_formed_tree, stored, is_chain, is_chain_back, united-front, is_after, can_join, no_union, with_tree, made_of_two, made_front, made_after, counted, counted_always}
use Rattle.tecs_nodes.proofs.unite.Goals as goal

pub chain-requires-clause-inside : goal.chain-requires-clause-inside
chain-requires-clause-inside g c =
    let u = stored _ c.requires.well_formed _ _ _ _ _ _ c.requires.a_inside c.in-Union.ensures.node in
    let v = stored _ c.requires.well_formed _ _ _ _ _ _ c.requires.b_inside c.in-Union-second.ensures.node in
    (u.inside_l, v.inside_l, u.inside_r, v.inside_r)

pub chain-requires-clause-well_formed_tree : goal.chain-requires-clause-well_formed_tree
chain-requires-clause-well_formed_tree g c =
    let w = c.requires.well_formed in
    let u = stored _ w _ _ _ _ _ _ c.requires.a_inside c.in-Union.ensures.node in
    let v = stored _ w _ _ _ _ _ _ c.requires.b_inside c.in-Union-second.ensures.node in
    subst IsWellFormedTree (is_chain _ _ _ _ _ _ _ _ _ u v (omega arith)) (united-well_formed_tree _ _ (w.well_formed_tree _ c.requires.a_inside) (w.well_formed_tree _ c.requires.b_inside) c.requires.can)

pub chain-requires-else-s_max-r_max-clause-inside : goal.chain-requires-else-s_max-r_max-clause-inside
chain-requires-else-s_max-r_max-clause-inside g c =
    let u = stored _ c.requires.well_formed _ _ _ _ _ _ c.requires.a_inside c.in-Union.ensures.node in
    let v = stored _ c.requires.well_formed _ _ _ _ _ _ c.requires.b_inside c.in-Union-second.ensures.node in
    (u.inside_l, v.inside_l, v.inside_r, u.inside_r)

pub chain-requires-else-s_max-r_max-clause-well_formed_tree : goal.chain-requires-else-s_max-r_max-clause-well_formed_tree
chain-requires-else-s_max-r_max-clause-well_formed_tree g c =
    let w = c.requires.well_formed in
    let u = stored _ w _ _ _ _ _ _ c.requires.a_inside c.in-Union.ensures.node in
    let v = stored _ w _ _ _ _ _ _ c.requires.b_inside c.in-Union-second.ensures.node in
    subst IsWellFormedTree (is_chain_back _ _ _ _ _ _ _ _ _ u v (omega arith)) (united-well_formed_tree _ _ (w.well_formed_tree _ c.requires.a_inside) (w.well_formed_tree _ c.requires.b_inside) c.requires.can)

pub join-requires-clause-can : goal.join-requires-clause-can
join-requires-clause-can g c =
    let w = c.requires.well_formed in
    let u = stored _ w _ _ _ _ _ _ c.requires.a_inside c.in-Union.ensures.node in
    let flat = no_union _ w _ _ c.get-second.ensures.node c.in_default-second.not-Union in
    can_join _ _ _ _ (w.well_formed_tree _ c.requires.a_inside) (w.well_formed_tree _ c.requires.b_inside) c.requires.can (is_after _ _ _ _ _ _ u flat)

pub join-requires-in_default-clause-can : goal.join-requires-in_default-clause-can
join-requires-in_default-clause-can g c =
    let w = c.requires.well_formed in
    let flat = no_union _ w _ _ c.get-first.ensures.node c.in_default.not-Union in
    can_join _ _ _ _ (w.well_formed_tree _ c.requires.a_inside) (w.well_formed_tree _ c.requires.b_inside) c.requires.can (united-front _ _ flat)

pub returns-then-s_max-r_max-clause-made : goal.returns-then-s_max-r_max-clause-made
returns-then-s_max-r_max-clause-made g c =
    let w = c.requires.well_formed in
    let u = stored _ w _ _ _ _ _ _ c.requires.a_inside c.in-Union.ensures.node in
    let v = stored _ w _ _ _ _ _ _ c.requires.b_inside c.in-Union-second.ensures.node in
    with_tree c.chain.result _ _ _ (sym (is_chain _ _ _ _ _ _ _ _ _ u v (omega arith))) c.chain.ensures.made

pub returns-else-s_max-r_max-clause-made : goal.returns-else-s_max-r_max-clause-made
returns-else-s_max-r_max-clause-made g c =
    let w = c.requires.well_formed in
    let u = stored _ w _ _ _ _ _ _ c.requires.a_inside c.in-Union.ensures.node in
    let v = stored _ w _ _ _ _ _ _ c.requires.b_inside c.in-Union-second.ensures.node in
    with_tree c.chain-else-s_max-r_max.result _ _ _ (sym (is_chain_back _ _ _ _ _ _ _ _ _ u v (omega arith))) c.chain-else-s_max-r_max.ensures.made

pub returns-in_default-second-clause-made : goal.returns-in_default-second-clause-made
returns-in_default-second-clause-made g c =
    let w = c.requires.well_formed in
    let u = stored _ w _ _ _ _ _ _ c.requires.a_inside c.in-Union.ensures.node in
    let flat = no_union _ w _ _ c.get-second.ensures.node c.in_default-second.not-Union in
    with_tree c.join.result _ _ _ (sym (is_after _ _ _ _ _ _ u flat)) c.join.ensures.made

pub returns-in_default-clause-made : goal.returns-in_default-clause-made
returns-in_default-clause-made g c =
    let flat = no_union _ c.requires.well_formed _ _ c.get-first.ensures.node c.in_default.not-Union in
    with_tree c.join-in_default.result _ _ _ (sym (united-front _ _ flat)) c.join-in_default.ensures.made

pub returns-then-s_max-r_max-clause-pushed : goal.returns-then-s_max-r_max-clause-pushed
returns-then-s_max-r_max-clause-pushed g c =
    let w = c.requires.well_formed in
    let u = stored _ w _ _ _ _ _ _ c.requires.a_inside c.in-Union.ensures.node in
    let v = stored _ w _ _ _ _ _ _ c.requires.b_inside c.in-Union-second.ensures.node in
    let made = made_of_two _ _ _ _ _ _ _ _ _ u v in
    counted c.chain.result _ _ _ c.chain.ensures.pushed (omega arith)

pub returns-then-s_max-r_max-clause-taken : goal.returns-then-s_max-r_max-clause-taken
returns-then-s_max-r_max-clause-taken g c =
    let w = c.requires.well_formed in
    let u = stored _ w _ _ _ _ _ _ c.requires.a_inside c.in-Union.ensures.node in
    let v = stored _ w _ _ _ _ _ _ c.requires.b_inside c.in-Union-second.ensures.node in
    let made = made_of_two _ _ _ _ _ _ _ _ _ u v in
    counted c.chain.result _ _ _ c.chain.ensures.taken (omega arith)

pub returns-else-s_max-r_max-clause-pushed : goal.returns-else-s_max-r_max-clause-pushed
returns-else-s_max-r_max-clause-pushed g c =
    let w = c.requires.well_formed in
    let u = stored _ w _ _ _ _ _ _ c.requires.a_inside c.in-Union.ensures.node in
    let v = stored _ w _ _ _ _ _ _ c.requires.b_inside c.in-Union-second.ensures.node in
    let made = made_of_two _ _ _ _ _ _ _ _ _ u v in
    counted c.chain-else-s_max-r_max.result _ _ _ c.chain-else-s_max-r_max.ensures.pushed (omega arith)

pub returns-else-s_max-r_max-clause-taken : goal.returns-else-s_max-r_max-clause-taken
returns-else-s_max-r_max-clause-taken g c =
    let w = c.requires.well_formed in
    let u = stored _ w _ _ _ _ _ _ c.requires.a_inside c.in-Union.ensures.node in
    let v = stored _ w _ _ _ _ _ _ c.requires.b_inside c.in-Union-second.ensures.node in
    let made = made_of_two _ _ _ _ _ _ _ _ _ u v in
    counted c.chain-else-s_max-r_max.result _ _ _ c.chain-else-s_max-r_max.ensures.taken (omega arith)

pub returns-in_default-second-clause-pushed : goal.returns-in_default-second-clause-pushed
returns-in_default-second-clause-pushed g c =
    let flat = no_union _ c.requires.well_formed _ _ c.get-second.ensures.node c.in_default-second.not-Union in
    let made = made_after (tree (g.S.NodeStore.nodes c.args.store.now) c.args.a) _ flat in
    counted c.join.result _ _ _ c.join.ensures.pushed (omega arith)

pub returns-in_default-second-clause-taken : goal.returns-in_default-second-clause-taken
returns-in_default-second-clause-taken g c =
    let flat = no_union _ c.requires.well_formed _ _ c.get-second.ensures.node c.in_default-second.not-Union in
    let made = made_after (tree (g.S.NodeStore.nodes c.args.store.now) c.args.a) _ flat in
    counted_always c.join.result _ _ (omega arith)

pub returns-in_default-clause-pushed : goal.returns-in_default-clause-pushed
returns-in_default-clause-pushed g c =
    let flat = no_union _ c.requires.well_formed _ _ c.get-first.ensures.node c.in_default.not-Union in
    let made = made_front _ (tree (g.S.NodeStore.nodes c.args.store.now) c.args.b) flat in
    counted c.join-in_default.result _ _ _ c.join-in_default.ensures.pushed (omega arith)

pub returns-in_default-clause-taken : goal.returns-in_default-clause-taken
returns-in_default-clause-taken g c =
    let flat = no_union _ c.requires.well_formed _ _ c.get-first.ensures.node c.in_default.not-Union in
    let made = made_front _ (tree (g.S.NodeStore.nodes c.args.store.now) c.args.b) flat in
    counted_always c.join-in_default.result _ _ (omega arith)
