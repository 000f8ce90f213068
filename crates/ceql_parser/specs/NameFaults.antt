-- Which fault is told of a name.
use Rattle.std.specs.Prelude.{ℕ, List}
use Rattle.ceql_grammar.specs.declared.faults.QueryFault.{QueryFault}
use Rattle.ceql_grammar.specs.declared.faults.QueryFault.TheVariants as fault
use Rattle.ceql_parser.specs.declared.refusals.NameFault.{NameFault}
use Rattle.ceql_parser.specs.declared.refusals.NameFault.TheVariants as wrong

abbrev pub fault_of : NameFault → List ℕ → QueryFault
fault_of wrong.NameTaken name = fault.NameTaken name
fault_of wrong.UnknownType name = fault.UnknownType name
fault_of wrong.UnknownStream name = fault.UnknownStream name
fault_of wrong.UnknownName name = fault.UnknownName name
fault_of wrong.UnknownAttribute name = fault.UnknownAttribute name
fault_of (wrong.NeverKind k) name = fault.NeverKind name k
fault_of wrong.WindowKind name = fault.WindowKind name
