use Rattle.cea_determinise.specs.Cea.{automaton_of_cea}
use Rattle.match_explain.proofs.Walked.{IsUnderWay}
use Rattle.match_explain.proofs.walking.walk.Given as goal

abbrev pub invariant-loop-i : goal.invariant-loop-i
invariant-loop-i l = IsUnderWay (automaton_of_cea l.cea) l.turns l.i l.last l.steps.items
