use Rattle.cea_determinise.specs.Cea.{IsSet}
use Rattle.set_tests.proofs.patterns.set_of.Given as goal

abbrev pub invariant-loop-k : goal.invariant-loop-k
invariant-loop-k l = IsSet l.size l.set
