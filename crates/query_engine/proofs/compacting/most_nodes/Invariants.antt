use Rattle.query_engine.specs.Compacting.{HaveRoomTo}
use Rattle.query_engine.proofs.compacting.most_nodes.Given as goal

abbrev pub invariant-loop-k : goal.invariant-loop-k
invariant-loop-k l = HaveRoomTo l.chosen l.most l.k l.query_states
