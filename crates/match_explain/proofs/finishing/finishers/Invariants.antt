use Rattle.std.proofs.Common.{drop, reverse}
use Rattle.cea_determinise.specs.Cea.{automaton_of_cea}
use Rattle.match_explain.specs.Searching.{IsAhead, AreFinishers}
use Rattle.match_explain.proofs.finishing.finishers.Given as goal

abbrev pub invariant-loop-i : goal.invariant-loop-i
invariant-loop-i l = record {
  ahead : IsAhead (automaton_of_cea l.cea) (drop l.i l.turns) l.ahead;
  sets : AreFinishers (automaton_of_cea l.cea) (drop l.i l.turns) (reverse l.sets.items);
}
