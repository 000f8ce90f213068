use Rattle.std.proofs.Common.{ap, sym, subst, ◌∙◌, Option}
use Rattle.ceql_grammar.specs.declared.faults.QueryError.{QueryError}
use Rattle.ceql_parser.specs.FirstFaults.{first_in, FindsFault}
use Rattle.ceql_parser.proofs.FirstFound.{told_at, kept_at}
use Rattle.ceql_parser.specs.FormulaFaults.{pred_fault}
use Rattle.ceql_parser.proofs.RowFaults.{all_preds, any_preds}
use Rattle.ceql_parser.proofs.pred_checks.+preds.Goals as goal

pub check_preds-returns-in-Err : goal.check_preds-returns-in-Err
check_preds-returns-in-Err t c = told_at (pred_fault c.args.types.now) c.args.preds.now c.loop-pred.pred-index c.pred-item.result c.in-Err.stop c.loop-pred-test.true c.pred-item.is c.loop-pred.invariant c.in-Err.ensures

pub check_preds-loop-pred-preserved : goal.check_preds-loop-pred-preserved
check_preds-loop-pred-preserved t c = kept_at (pred_fault c.args.types.now) c.args.preds.now c.loop-pred.pred-index c.pred-item.result c.loop-pred-test.true c.pred-item.is c.loop-pred.invariant c.in-Ok.ensures

pub check_pred-returns-in-All : goal.check_pred-returns-in-All
check_pred-returns-in-All t c =
    let types = c.args.types.now in
    subst (λ (o : Option QueryError). FindsFault c.check_preds.result o)
    (ap (first_in (pred_fault types)) c.deref-in-All.ensures.value ∙ sym (all_preds types c.in-All.preds) ∙ sym (ap (pred_fault types) c.in-All.is))
    c.check_preds.ensures

pub check_pred-returns-in-Any : goal.check_pred-returns-in-Any
check_pred-returns-in-Any t c =
    let types = c.args.types.now in
    subst (λ (o : Option QueryError). FindsFault c.check_preds-in-Any.result o)
    (ap (first_in (pred_fault types)) c.deref-in-Any.ensures.value ∙ sym (any_preds types c.in-Any.preds) ∙ sym (ap (pred_fault types) c.in-Any.is))
    c.check_preds-in-Any.ensures
