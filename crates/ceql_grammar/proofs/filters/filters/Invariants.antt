use Rattle.std.proofs.Common.{◌≡◌, ◌≤◌, length, map}
use Rattle.ceql_grammar.specs.PartlyRead.{with_front}
use Rattle.ceql_grammar.specs.RuleReaders.{more_filters}
use Rattle.ceql_grammar.specs.Trees.{filter_tree}
use Rattle.ceql_grammar.proofs.filters.filters.Given as goal

abbrev pub invariant-loop-later : goal.invariant-loop-later
invariant-loop-later l = (with_front (map filter_tree l.filters.items) (more_filters l.rest) ≡ more_filters l.tokens) × (length l.rest ≤ length l.tokens)

abbrev pub decreases-loop-later : goal.decreases-loop-later
decreases-loop-later l = length l.rest
