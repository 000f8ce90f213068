use Rattle.std.proofs.Common.{◌++◌, take}
use Rattle.ceql_parser.specs.QueryTypes.{HaveSameNumbers}
use Rattle.ceql_parser.proofs.query_types.add_numbers.Given as goal

abbrev pub invariant-loop-number : goal.invariant-loop-number
invariant-loop-number l = HaveSameNumbers l.numbers.keys (l.initial.numbers.keys ++ take l.number-index l.types)
