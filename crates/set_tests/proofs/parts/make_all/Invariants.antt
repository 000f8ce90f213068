use Rattle.std.proofs.Common.{◌≡◌, [], true, drop}
use Rattle.set_tests.specs.Parts.{trees_of, can_make_all, trees_at, AreNodes}
use Rattle.set_tests.proofs.parts.make_all.Given as goal

-- the parts that are left can be made, and give the trees that all give
abbrev pub invariant-loop-part : goal.invariant-loop-part
invariant-loop-part g l = record {
  nodes : AreNodes (g.S.NodeStore.nodes l.store) l.ids.items;
  can : can_make_all (trees_at (g.S.NodeStore.nodes l.store) l.ids.items) (drop l.part-index l.parts) ≡ true;
  trees : trees_of (trees_at (g.S.NodeStore.nodes l.store) l.ids.items) (drop l.part-index l.parts) ≡ trees_of [] l.parts;
}
