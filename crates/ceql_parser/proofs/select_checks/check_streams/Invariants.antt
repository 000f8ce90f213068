use Rattle.std.proofs.Common.{◌≡◌, None, take}
use Rattle.ceql_parser.specs.FirstFaults.{first_in, unless_named}
use Rattle.ceql_parser.specs.StatementFaults.{is_stream}
use Rattle.ceql_grammar.specs.declared.faults.QueryFault.TheVariants.{UnknownStream}
use Rattle.ceql_parser.proofs.select_checks.check_streams.Given as goal

abbrev pub invariant-loop-name : goal.invariant-loop-name
invariant-loop-name l = first_in (λ n. unless_named (is_stream l.schema n.text) UnknownStream n) (take l.name-index l.streams) ≡ None
