use Rattle.std.proofs.Common.{take}
use Rattle.query_leaves.specs.Tests.{AreTestsOf}
use Rattle.query_leaves.proofs.test_of.+is_test_of.Given as goal

abbrev pub invariant-are_tests_of-loop-k : goal.invariant-are_tests_of-loop-k
invariant-are_tests_of-loop-k l = AreTestsOf l.schema l.ty (take l.k l.preds) (take l.k l.tests)
