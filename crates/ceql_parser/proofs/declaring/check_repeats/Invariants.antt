use Rattle.std.proofs.Common.{◌≡◌, [], drop}
use Rattle.ceql_parser.specs.StatementFaults.{repeats_fault}
use Rattle.ceql_parser.proofs.declaring.check_repeats.Given as goal

abbrev pub invariant-loop-attr : goal.invariant-loop-attr
invariant-loop-attr l = repeats_fault [] l.attrs ≡ repeats_fault l.earlier (drop l.attr-index l.attrs)
