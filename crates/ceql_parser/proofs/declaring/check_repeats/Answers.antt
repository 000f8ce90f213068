use Rattle.std.proofs.Common.{[]}
use Rattle.ceql_parser.specs.StatementFaults.{repeats_fault}
use Rattle.ceql_parser.proofs.RepeatedAttributes.{repeats_kept, repeats_told}
use Rattle.ceql_parser.proofs.declaring.check_repeats.Goals as goal

pub returns-in-Err : goal.returns-in-Err
returns-in-Err c = repeats_told (Unit {0}) (Unit {0}) c.args.attrs.now c.loop-attr.attr-index c.attr-item.result c.in-Err.stop (repeats_fault [] c.args.attrs.now) c.loop-attr.earlier c.loop-attr-test.true c.attr-item.is c.loop-attr.invariant c.in-Err.ensures.told

pub loop-attr-preserved : goal.loop-attr-preserved
loop-attr-preserved c = repeats_kept c.args.attrs.now c.loop-attr.attr-index c.attr-item.result (repeats_fault [] c.args.attrs.now) c.loop-attr.earlier _ c.loop-attr-test.true c.attr-item.is c.loop-attr.invariant c.in-Ok.ensures.told c.in-Ok.ensures.names
