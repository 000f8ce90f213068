use Rattle.std.proofs.Common.{◌≡◌, map, length}
use Rattle.ceql_grammar.specs.PartlyRead.{with_front}
use Rattle.ceql_grammar.specs.RuleReaders.{text}
use Rattle.ceql_grammar.specs.Statements.{statement_tree}
use Rattle.ceql_grammar.proofs.parsing.text.Given as goal

abbrev pub invariant-loop-rest : goal.invariant-loop-rest
invariant-loop-rest l = with_front (map statement_tree l.statements.items) (text l.rest) ≡ text l.tokens

abbrev pub decreases-loop-rest : goal.decreases-loop-rest
decreases-loop-rest l = length l.rest
