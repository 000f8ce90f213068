use Rattle.std.proofs.Common.{◌≡◌, None, take}
use Rattle.ceql_parser.specs.FirstFaults.{first_in, unless_named}
use Rattle.ceql_parser.specs.TypesAsked.{some_has_attr, any_kind}
use Rattle.ceql_grammar.specs.declared.faults.QueryFault.TheVariants.{UnknownAttribute}
use Rattle.ceql_parser.proofs.select_checks.check_partition.Given as goal

abbrev pub invariant-loop-name : goal.invariant-loop-name
invariant-loop-name l = first_in (λ n. unless_named (some_has_attr l.types n.text any_kind) UnknownAttribute n) (take l.name-index l.partition) ≡ None
