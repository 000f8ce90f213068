use Rattle.std.proofs.Common.{◌≡◌, ◌≤◌, length}
use Rattle.ceql_grammar.specs.PartlyRead.{with_front}
use Rattle.ceql_grammar.specs.RuleReaders.{postfixes}
use Rattle.ceql_grammar.proofs.formulas.postfixes.Given as goal

abbrev pub invariant-loop-alloc : goal.invariant-loop-alloc
invariant-loop-alloc l = (with_front l.postfixes.items (postfixes l.rest) ≡ postfixes l.tokens) × (length l.rest ≤ length l.tokens)

abbrev pub decreases-loop-alloc : goal.decreases-loop-alloc
decreases-loop-alloc l = length l.rest
