use Rattle.query_engine.specs.Choosing.{AreNotedAll}
use Rattle.query_engine.proofs.sizes.note_all.Given as goal

abbrev pub invariant-loop-k : goal.invariant-loop-k
invariant-loop-k l = AreNotedAll l.k l.query_states l.bases
