use Rattle.std.proofs.Common.{◌≡◌, None, take}
use Rattle.ceql_parser.specs.FirstFaults.{first_in}
use Rattle.ceql_parser.specs.FormulaFaults.{pred_fault}
use Rattle.ceql_parser.proofs.pred_checks.+preds.Given as goal

abbrev pub invariant-check_preds-loop-pred : goal.invariant-check_preds-loop-pred
invariant-check_preds-loop-pred l = first_in (pred_fault l.types) (take l.pred-index l.preds) ≡ None
