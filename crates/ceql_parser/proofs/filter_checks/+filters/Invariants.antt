use Rattle.std.proofs.Common.{◌≡◌, None, take}
use Rattle.ceql_parser.specs.FirstFaults.{first_in}
use Rattle.ceql_parser.specs.FormulaFaults.{filter_fault}
use Rattle.ceql_parser.proofs.filter_checks.+filters.Given as goal

abbrev pub invariant-check_filters-loop-filter : goal.invariant-check_filters-loop-filter
invariant-check_filters-loop-filter l = first_in (filter_fault l.types l.names) (take l.filter-index l.filters) ≡ None
