use Rattle.std.proofs.Common.{◌≡◌, ℕ, ◌&&◌, length, nat_lt}
use Rattle.cer_base.specs.Bits.{has, room_for}
use Rattle.cea_determinise.specs.Runs.{skip_insensitive, pair}
use Rattle.cea_determinise.specs.Cea.{automaton_of_cea}
use Rattle.cea_determinise.proofs.sets.all_waiting.Given as goal

abbrev pub invariant-loop-leaf : goal.invariant-loop-leaf
invariant-loop-leaf l = record {
  room : length l.leaves ≡ room_for l.cea.size;
  members : (k : ℕ) → has l.leaves k ≡ nat_lt k l.leaf && skip_insensitive (automaton_of_cea l.cea) (pair (has l.state_sets.fresh) (has l.state_sets.waiting)) k;
}
