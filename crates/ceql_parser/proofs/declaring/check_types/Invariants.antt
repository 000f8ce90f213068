use Rattle.std.proofs.Common.{◌≡◌, None, take}
use Rattle.ceql_parser.specs.FirstFaults.{first_in, unless_named}
use Rattle.ceql_parser.specs.TypesAsked.{is_type_name}
use Rattle.ceql_grammar.specs.declared.faults.QueryFault.TheVariants.{UnknownType}
use Rattle.ceql_parser.proofs.declaring.check_types.Given as goal

abbrev pub invariant-loop-name : goal.invariant-loop-name
invariant-loop-name l = first_in (λ t. unless_named (is_type_name l.schema.types t.text) UnknownType t) (take l.name-index l.types) ≡ None
