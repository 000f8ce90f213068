use Rattle.all_or_none.specs.Phases.{Phase}
use Rattle.query_engine.specs.Running.{AreNamed}
use Rattle.query_engine.proofs.query_states.all_numbers.Given as goal

abbrev pub invariant-loop-k : goal.invariant-loop-k
invariant-loop-k l = AreNamed (λ (p : Phase). ⊥) l.k l.query_states l.numbers.items
