use Rattle.query_engine.specs.Choosing.{NoneHasGrown}
use Rattle.query_engine.proofs.sizes.has_one_grown.Given as goal

abbrev pub invariant-loop-k : goal.invariant-loop-k
invariant-loop-k l = NoneHasGrown l.least l.bases l.k l.query_states
