use Rattle.std.proofs.Common.{◌≡◌, ◌<◌, length}
use Rattle.ceql_grammar.specs.PartlyRead.{with_front}
use Rattle.ceql_grammar.specs.RuleReaders.{more_names, names}
use Rattle.ceql_grammar.proofs.names.names.Given as goal

abbrev pub invariant-loop-later : goal.invariant-loop-later
invariant-loop-later l = (with_front l.names.items (more_names l.rest) ≡ names l.tokens) × (length l.rest < length l.tokens)

abbrev pub decreases-loop-later : goal.decreases-loop-later
decreases-loop-later l = length l.rest
