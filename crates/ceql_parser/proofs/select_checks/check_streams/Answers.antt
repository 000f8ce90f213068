use Rattle.ceql_parser.specs.FirstFaults.{unless_named}
use Rattle.ceql_parser.proofs.FirstFound.{told_at, kept_at}
use Rattle.ceql_parser.specs.StatementFaults.{is_stream}
use Rattle.ceql_grammar.specs.declared.faults.QueryFault.TheVariants.{UnknownStream}
use Rattle.ceql_parser.proofs.select_checks.check_streams.Goals as goal

pub returns-in-Err : goal.returns-in-Err
returns-in-Err c = told_at (λ n. unless_named (is_stream c.args.schema.now n.text) UnknownStream n) c.args.streams.now c.loop-name.name-index c.name-item.result c.in-Err.stop c.loop-name-test.true c.name-item.is c.loop-name.invariant c.in-Err.ensures

pub loop-name-preserved : goal.loop-name-preserved
loop-name-preserved c = kept_at (λ n. unless_named (is_stream c.args.schema.now n.text) UnknownStream n) c.args.streams.now c.loop-name.name-index c.name-item.result c.loop-name-test.true c.name-item.is c.loop-name.invariant c.in-Ok.ensures
