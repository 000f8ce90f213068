use Rattle.std.proofs.Common.{length}
use Rattle.tecs_enumerate.specs.Remaining.{rest, Fits}
use Rattle.set_tests.proofs.listings.write_all.Given as goal

abbrev pub invariant-loop-start : goal.invariant-loop-start
invariant-loop-start g l = Fits l.cursor (g.S.NodeStore.nodes l.store)

-- the answers that are left
abbrev pub decreases-loop-start : goal.decreases-loop-start
decreases-loop-start g l = length (rest l.cursor (g.S.NodeStore.nodes l.store))
