use Rattle.std.proofs.Common.{take}
use Rattle.query_leaves.specs.Tests.{AreTestsOf}
use Rattle.query_leaves.proofs.test_of.+test_of.Given as goal

abbrev pub invariant-tests_of-loop-pred : goal.invariant-tests_of-loop-pred
invariant-tests_of-loop-pred l = AreTestsOf l.schema l.ty (take l.pred-index l.preds) l.tests.items
