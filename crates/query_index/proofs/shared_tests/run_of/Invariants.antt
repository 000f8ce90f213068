use Rattle.std.proofs.Common.{take}
use Rattle.query_index.specs.SharedTests.{AreSharing}
use Rattle.query_index.proofs.shared_tests.run_of.Given as goal

abbrev pub invariant-loop-row : goal.invariant-loop-row
invariant-loop-row l = AreSharing l.leaves (take l.row-index l.rows) l.shared
