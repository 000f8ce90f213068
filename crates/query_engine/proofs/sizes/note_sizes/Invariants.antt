use Rattle.query_engine.specs.Choosing.{AreNoted}
use Rattle.query_engine.proofs.sizes.note_sizes.Given as goal

abbrev pub invariant-loop-k : goal.invariant-loop-k
invariant-loop-k l = AreNoted l.chosen l.k l.query_states l.fn.bases l.bases
