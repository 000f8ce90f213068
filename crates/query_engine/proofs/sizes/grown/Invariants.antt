use Rattle.std.proofs.Common.{◌≡◌, length}
use Rattle.query_engine.specs.Choosing.{AreGrown}
use Rattle.query_engine.proofs.sizes.grown.Given as goal

abbrev pub invariant-loop-k : goal.invariant-loop-k
invariant-loop-k l = record {
  long : length l.chosen.items ≡ l.k;
  are : AreGrown l.least l.bases l.k l.query_states l.chosen.items;
}
