use Rattle.ceql_parser.specs.FirstFaults.{unless_named}
use Rattle.ceql_parser.proofs.FirstFound.{told_at, kept_at}
use Rattle.ceql_parser.specs.TypesAsked.{some_has_attr, any_kind}
use Rattle.ceql_grammar.specs.declared.faults.QueryFault.TheVariants.{UnknownAttribute}
use Rattle.ceql_parser.proofs.select_checks.check_partition.Goals as goal

pub returns-in-Err : goal.returns-in-Err
returns-in-Err c = told_at (λ n. unless_named (some_has_attr c.args.types.now n.text any_kind) UnknownAttribute n) c.args.partition.now c.loop-name.name-index c.name-item.result c.in-Err.stop c.loop-name-test.true c.name-item.is c.loop-name.invariant c.in-Err.ensures

pub loop-name-preserved : goal.loop-name-preserved
loop-name-preserved c = kept_at (λ n. unless_named (some_has_attr c.args.types.now n.text any_kind) UnknownAttribute n) c.args.partition.now c.loop-name.name-index c.name-item.result c.loop-name-test.true c.name-item.is c.loop-name.invariant c.in-Ok.ensures
