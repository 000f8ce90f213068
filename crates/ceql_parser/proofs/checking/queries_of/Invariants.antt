use Rattle.std.proofs.Common.{◌≡◌}
use Rattle.ceql_parser.specs.ScriptFaults.{queries_of}
use Rattle.ceql_parser.proofs.checking.queries_of.Given as goal

abbrev pub invariant-loop-statement : goal.invariant-loop-statement
invariant-loop-statement l = l.queries.items ≡ queries_of l.yielded
