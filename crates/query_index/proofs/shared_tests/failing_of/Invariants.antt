use Rattle.query_index.proofs.TestWords.{HasFailingTo}
use Rattle.query_index.proofs.shared_tests.failing_of.Given as goal

abbrev pub invariant-loop-k : goal.invariant-loop-k
invariant-loop-k l = HasFailingTo l.k l.tests l.failing l.event
