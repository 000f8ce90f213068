use Rattle.ceql_parser.specs.FormulaFaults.{name_fault}
use Rattle.ceql_parser.proofs.FirstFound.{told_at, kept_at}
use Rattle.ceql_parser.proofs.name_checks.names_known.Goals as goal

pub returns-in-Err : goal.returns-in-Err
returns-in-Err c = told_at (name_fault c.args.names.now) c.args.listed.now c.loop-name.name-index c.name-item.result c.in-Err.stop c.loop-name-test.true c.name-item.is c.loop-name.invariant c.in-Err.ensures

pub loop-name-preserved : goal.loop-name-preserved
loop-name-preserved c = kept_at (name_fault c.args.names.now) c.args.listed.now c.loop-name.name-index c.name-item.result c.loop-name-test.true c.name-item.is c.loop-name.invariant c.in-Ok.ensures
