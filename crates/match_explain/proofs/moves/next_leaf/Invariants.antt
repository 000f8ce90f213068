use Rattle.std.proofs.Common.{◌≡◌, ◌&&◌, false}
use Rattle.cer_base.specs.Bits.{has}
use Rattle.cea_determinise.specs.Runs.{some_below}
use Rattle.cea_determinise.specs.Cea.{automaton_of_cea}
use Rattle.match_explain.specs.Searching.{may_read}
use Rattle.match_explain.proofs.moves.next_leaf.Given as goal

abbrev pub invariant-loop-leaf : goal.invariant-loop-leaf
invariant-loop-leaf l = some_below l.leaf (λ j. may_read (automaton_of_cea l.cea) l.last j && has l.set j) ≡ false
