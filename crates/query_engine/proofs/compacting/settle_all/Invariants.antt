use Rattle.std.proofs.Common.{◌≡◌, map, take, drop}
use Rattle.query_state.specs.QueryStates.{woken}
use Rattle.query_engine.proofs.compacting.settle_all.Given as goal

abbrev pub invariant-loop-k : goal.invariant-loop-k
invariant-loop-k l = record {
  done : map (λ p. p) (take l.k l.query_states) ≡ map (woken l.count) (take l.k l.fn.query_states);
  left : drop l.k l.query_states ≡ drop l.k l.fn.query_states;
}
