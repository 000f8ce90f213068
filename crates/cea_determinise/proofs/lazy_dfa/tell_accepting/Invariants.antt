use Rattle.std.proofs.Common.{◌≡◌, length}
use Rattle.cea_determinise.specs.LazyDfa.{TellsAccepting}
use Rattle.cea_determinise.proofs.lazy_dfa.tell_accepting.Given as goal

abbrev pub invariant-loop-k : goal.invariant-loop-k
invariant-loop-k l = record {
  count : length l.accepting.items ≡ l.k;
  told : TellsAccepting l.cea l.states.keys l.accepting.items;
}
