use Rattle.std.proofs.Common.{◌≡◌, ◌≤◌, ◌-◌, ◌++◌, length, drop}
use Rattle.ceql_grammar.specs.Values.{inside_quotes}
use Rattle.ceql_grammar.proofs.values.unquoted.Given as goal

abbrev pub invariant-loop-i : goal.invariant-loop-i
invariant-loop-i l = (l.bytes.items ++ inside_quotes l.quote (drop l.i l.inside) ≡ inside_quotes l.quote l.inside) × (l.i ≤ length l.inside)

abbrev pub decreases-loop-i : goal.decreases-loop-i
decreases-loop-i l = length l.inside - l.i
