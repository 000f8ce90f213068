use Rattle.std.proofs.Common.{◌≡◌, None, take}
use Rattle.ceql_parser.specs.FirstFaults.{first_in}
use Rattle.ceql_parser.specs.FormulaFaults.{name_fault}
use Rattle.ceql_parser.proofs.name_checks.names_known.Given as goal

abbrev pub invariant-loop-name : goal.invariant-loop-name
invariant-loop-name l = first_in (name_fault l.names) (take l.name-index l.listed) ≡ None
