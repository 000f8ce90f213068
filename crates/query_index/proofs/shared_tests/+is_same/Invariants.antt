use Rattle.query_index.proofs.TestWords.{AlikeTo}
use Rattle.query_index.proofs.shared_tests.+is_same.Given as goal

abbrev pub invariant-are_same-loop-k : goal.invariant-are_same-loop-k
invariant-are_same-loop-k l = AlikeTo l.k l.tests l.others
