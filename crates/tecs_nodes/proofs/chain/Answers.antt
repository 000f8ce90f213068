use Rattle.std.proofs.Common.{◌≡◌, ◌<◌, IfOk, List, length, ℕ, subst, sym, refl}
use Rattle.cer_base.specs.declared.node.Node.{Node}
use Rattle.cer_base.specs.Members.{SetTree, United, IsWellFormedTree}
use Rattle.cer_base.specs.Nodes.{tree, HasNode, Grows}
use Rattle.cer_base.proofs.Trees.{tree-grows, Grows-trans}
use Rattle.tecs_nodes.proofs.chain.Goals as goal

-- two unions on top of a tree, the second pushed after the first
chained : (old one two : List Node) → Grows old one → Grows one two → (a b inner middle : ℕ) (t : SetTree) → a < length old → b < length old → tree one inner ≡ t → tree two middle ≡ United (tree one b) (tree one inner) → United (tree two a) (tree two middle) ≡ United (tree old a) (United (tree old b) t)
chained old one two g h a b inner middle t in_a in_b is_inner is_middle =
    rw (tree-grows old two (Grows-trans old one two g h) a in_a, is_middle, tree-grows old one g b in_b, is_inner) refl

pub join-requires-2-clause-can : goal.join-requires-2-clause-can
join-requires-2-clause-can g c =
    rw (tree-grows _ _ c.join.ensures.grows c.args.second c.requires.inside.1, c.in_ok-inner.ensures.made.1) c.requires.well_formed_tree.1.2

pub join-requires-3-clause-can : goal.join-requires-3-clause-can
join-requires-3-clause-can g c =
    (subst IsWellFormedTree (sym (chained _ _ _ c.join.ensures.grows c.join-2.ensures.grows c.args.first c.args.second c.in_ok-inner.inner c.in_ok-middle.middle _ c.requires.inside.0 c.requires.inside.1 c.in_ok-inner.ensures.made.1 c.in_ok-middle.ensures.made.1)) c.requires.well_formed_tree).2

pub returns-clause-made : goal.returns-clause-made
returns-clause-made g c =
    subst (λ (t : SetTree). IfOk c.join-3.result (λ new. HasNode (g.S.NodeStore.nodes c.join-3.new.store) new t))
    (chained _ _ _ c.join.ensures.grows c.join-2.ensures.grows c.args.first c.args.second c.in_ok-inner.inner c.in_ok-middle.middle _ c.requires.inside.0 c.requires.inside.1 c.in_ok-inner.ensures.made.1 c.in_ok-middle.ensures.made.1)
    c.join-3.ensures.made

pub returns-clause-grows : goal.returns-clause-grows
returns-clause-grows g c = Grows-trans _ _ _ c.join.ensures.grows (Grows-trans _ _ _ c.join-2.ensures.grows c.join-3.ensures.grows)
