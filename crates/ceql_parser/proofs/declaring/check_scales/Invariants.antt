use Rattle.std.proofs.Common.{◌≡◌, None, take}
use Rattle.ceql_parser.specs.StatementFaults.{attr_fault}
use Rattle.ceql_parser.specs.FirstFaults.{first_in}
use Rattle.ceql_parser.proofs.declaring.check_scales.Given as goal

abbrev pub invariant-loop-attr : goal.invariant-loop-attr
invariant-loop-attr l = first_in attr_fault (take l.attr-index l.attrs) ≡ None
