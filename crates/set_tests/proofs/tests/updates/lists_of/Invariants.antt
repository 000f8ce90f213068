use Rattle.std.proofs.Common.{◌≡◌}
use Rattle.set_tests.proofs.tests.updates.lists_of.Given as goal

-- the size stays
abbrev pub invariant-loop-leaf : goal.invariant-loop-leaf
invariant-loop-leaf g l = l.matches.cea.size ≡ l.size
