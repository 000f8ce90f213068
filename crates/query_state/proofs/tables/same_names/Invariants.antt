use Rattle.std.proofs.Common.{◌≡◌, length, take}
use Rattle.query_state.specs.QueryStates.{texts_of}
use Rattle.query_state.proofs.tables.same_names.Given as goal

abbrev pub invariant-loop-k : goal.invariant-loop-k
invariant-loop-k l = record {
  long : length l.one ≡ length l.other;
  same : texts_of (take l.k l.one) ≡ texts_of (take l.k l.other);
}
