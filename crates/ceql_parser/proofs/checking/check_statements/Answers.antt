use Rattle.ceql_parser.specs.ScriptFaults.{no_declarations}
use Rattle.ceql_parser.proofs.StatementsInTurn.{told_there, none_kept, schema_kept, count_kept}
use Rattle.ceql_parser.proofs.checking.check_statements.Goals as goal

pub returns-in-Err-clause-told : goal.returns-in-Err-clause-told
returns-in-Err-clause-told c =
    told_there no_declarations c.loop-statement.schema c.loop-statement.count c.args.statements.now c.loop-statement.statement-index c.statement-item.result c.in-Err.stop _
    c.loop-statement-test.true c.statement-item.is c.loop-statement.invariant.count c.loop-statement.invariant.schema c.loop-statement.invariant.none c.in-Err.ensures.told

pub loop-statement-preserved : goal.loop-statement-preserved
loop-statement-preserved c = record {
  none = none_kept no_declarations c.loop-statement.schema c.loop-statement.count c.args.statements.now c.loop-statement.statement-index c.statement-item.result c.loop-statement-test.true c.statement-item.is c.loop-statement.invariant.count c.loop-statement.invariant.schema c.loop-statement.invariant.none c.in-Ok.ensures.told;
  schema = schema_kept no_declarations c.loop-statement.schema _ c.args.statements.now c.loop-statement.statement-index c.statement-item.result c.loop-statement-test.true c.statement-item.is c.loop-statement.invariant.schema c.in-Ok.ensures.declared;
  count = count_kept c.loop-statement.count c.queries_in-count.result c.args.statements.now c.loop-statement.statement-index c.statement-item.result c.loop-statement-test.true c.statement-item.is c.loop-statement.invariant.count c.queries_in-count.ensures;
}
