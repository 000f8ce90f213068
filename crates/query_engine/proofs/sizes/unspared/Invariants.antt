use Rattle.std.proofs.Common.{◌≡◌, length}
use Rattle.query_engine.specs.Choosing.{OthersAreFree}
use Rattle.query_engine.proofs.sizes.unspared.Given as goal

abbrev pub invariant-loop-k : goal.invariant-loop-k
invariant-loop-k l = record {
  long : length l.chosen.items ≡ l.k;
  free : OthersAreFree l.k l.query_states l.chosen.items;
}
