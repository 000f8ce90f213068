use Rattle.std.proofs.Common.{◌≡◌, ℕ, ◌<◌, ◌≤◌, ◌&&◌, ◌||◌, not, false}
use Rattle.cer_base.specs.Bits.{has}
use Rattle.cea_determinise.specs.Runs.{some_below}
use Rattle.cea_determinise.specs.Cea.{automaton_of_cea, IsSet}
use Rattle.match_explain.specs.declared.moves.Last.TheVariants.{Leaf as At}
use Rattle.match_explain.specs.Searching.{may_read}
use Rattle.match_explain.proofs.finishing.before.Given as goal

abbrev pub invariant-loop-leaf : goal.invariant-loop-leaf
invariant-loop-leaf l = record {
  set : IsSet l.cea.size l.set;
  below : (k : ℕ) → k < l.leaf → has l.set k ≡ (some_below l.cea.size (λ j. may_read (automaton_of_cea l.cea) (At l.age k) j && has l.finishers j) || (not l.turn.marked && has l.ahead.earlier k));
  rest : (k : ℕ) → l.leaf ≤ k → has l.set k ≡ false;
}
