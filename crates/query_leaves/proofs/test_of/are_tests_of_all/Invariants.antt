use Rattle.std.proofs.Common.{map, drop, take, length, ◌-◌}
use Rattle.std.specs.Prelude.{reverse}
use Rattle.query_leaves.specs.Tests.{AreTestsOf}
use Rattle.query_leaves.proofs.test_of.are_tests_of_all.Given as goal

abbrev pub invariant-loop-k : goal.invariant-loop-k
invariant-loop-k l = AreTestsOf l.schema l.ty (map (λ p. p.now) (reverse (drop l.k l.preds))) (take (length l.preds - l.k) l.tests)
