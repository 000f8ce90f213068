use Rattle.std.proofs.Common.{All}
use Rattle.cer_base.specs.Nodes.{IsRoot}
use Rattle.set_tests.proofs.listings.roots_at.Given as goal

abbrev pub invariant-loop-place : goal.invariant-loop-place
invariant-loop-place g l = All (IsRoot (g.S.NodeStore.nodes l.store)) l.roots.items
