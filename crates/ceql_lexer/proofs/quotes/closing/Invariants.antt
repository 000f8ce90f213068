use Rattle.std.proofs.Common.{length, ◌-◌}
use Rattle.ceql_lexer.proofs.Strings.{Passes}
use Rattle.ceql_lexer.proofs.quotes.closing.Given as goal

abbrev pub invariant-loop-passed : goal.invariant-loop-passed
invariant-loop-passed l = Passes l.quote l.text l.passed

abbrev pub decreases-loop-passed : goal.decreases-loop-passed
decreases-loop-passed l = length l.text - l.passed
