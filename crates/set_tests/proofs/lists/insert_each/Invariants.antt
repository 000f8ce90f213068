use Rattle.std.proofs.Common.{drop}
use Rattle.cer_base.specs.Nodes.{Grows}
use Rattle.set_tests.specs.Rows.{CanInsertAll}
use Rattle.set_tests.proofs.lists.insert_each.Given as goal

-- the nodes from k on can still be taken in
abbrev pub invariant-loop-k : goal.invariant-loop-k
invariant-loop-k g l = Grows (g.S.NodeStore.nodes l.fn.store) (g.S.NodeStore.nodes l.store) × CanInsertAll (g.S.NodeStore.nodes l.store) l.list (drop l.k l.ids)
