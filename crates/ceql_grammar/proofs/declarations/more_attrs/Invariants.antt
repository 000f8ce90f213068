use Rattle.std.proofs.Common.{◌≡◌, ◌≤◌, length}
use Rattle.ceql_grammar.specs.PartlyRead.{with_front}
use Rattle.ceql_grammar.specs.RuleReaders.{more_attrs}
use Rattle.ceql_grammar.proofs.declarations.more_attrs.Given as goal

abbrev pub invariant-loop-later : goal.invariant-loop-later
invariant-loop-later l = (with_front l.attrs.items (more_attrs l.rest) ≡ with_front l.fn.attrs.items (more_attrs l.tokens)) × (length l.rest ≤ length l.tokens)

abbrev pub decreases-loop-later : goal.decreases-loop-later
decreases-loop-later l = length l.rest
