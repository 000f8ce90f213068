use Rattle.ceql_parser.specs.FirstFaults.{unless_named}
use Rattle.ceql_parser.proofs.FirstFound.{told_at, kept_at}
use Rattle.ceql_parser.specs.TypesAsked.{is_type_name}
use Rattle.ceql_grammar.specs.declared.faults.QueryFault.TheVariants.{UnknownType}
use Rattle.ceql_parser.proofs.declaring.check_types.Goals as goal

pub returns-in-Err : goal.returns-in-Err
returns-in-Err c = told_at (λ t. unless_named (is_type_name c.args.schema.now.types t.text) UnknownType t) c.args.types.now c.loop-name.name-index c.name-item.result c.in-Err.stop c.loop-name-test.true c.name-item.is c.loop-name.invariant c.in-Err.ensures

pub loop-name-preserved : goal.loop-name-preserved
loop-name-preserved c = kept_at (λ t. unless_named (is_type_name c.args.schema.now.types t.text) UnknownType t) c.args.types.now c.loop-name.name-index c.name-item.result c.loop-name-test.true c.name-item.is c.loop-name.invariant c.in-Ok.ensures
