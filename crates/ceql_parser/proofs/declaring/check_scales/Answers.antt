use Rattle.ceql_parser.proofs.FirstFound.{told_at, kept_at}
use Rattle.ceql_parser.specs.StatementFaults.{attr_fault}
use Rattle.ceql_parser.proofs.declaring.check_scales.Goals as goal

pub returns-in-Err : goal.returns-in-Err
returns-in-Err c = told_at (attr_fault) c.args.attrs.now c.loop-attr.attr-index c.attr-item.result c.in-Err.stop c.loop-attr-test.true c.attr-item.is c.loop-attr.invariant c.in-Err.ensures

pub loop-attr-preserved : goal.loop-attr-preserved
loop-attr-preserved c = kept_at (attr_fault) c.args.attrs.now c.loop-attr.attr-index c.attr-item.result c.loop-attr-test.true c.attr-item.is c.loop-attr.invariant c.in-Ok.ensures
