use Rattle.std.proofs.Common.{◌≡◌, take, drop}
use Rattle.query_engine.specs.Running.{raised}
use Rattle.query_engine.proofs.query_states.raise.Given as goal

abbrev pub invariant-loop-k : goal.invariant-loop-k
invariant-loop-k l = record {
  done : take l.k l.peaks ≡ take l.k (raised l.fn.peaks l.query_states);
  left : drop l.k l.peaks ≡ drop l.k l.fn.peaks;
}
