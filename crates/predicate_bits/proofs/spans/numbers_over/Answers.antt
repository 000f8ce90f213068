use Rattle.stream_schema.specs.declared.Op.TheVariants.{Lt, Le, Gt, Ge}
use Rattle.predicate_bits.proofs.Spanned.{read_below, read_above, lt_below, le_below, gt_above, ge_above}
use Rattle.predicate_bits.proofs.spans.numbers_over.Goals as goal

pub returns-in-Lt : goal.returns-in-Lt
returns-in-Lt c = read_below c.args.op Lt lt_below c.in-Lt.is c.args.first.now c.args.last.now c.args.literal.now c.compares_in_place.result c.compares_in_place-in-Lt.result c.compares_in_place.ensures c.compares_in_place-in-Lt.ensures c.requires

pub returns-in-Le : goal.returns-in-Le
returns-in-Le c = read_below c.args.op Le le_below c.in-Le.is c.args.first.now c.args.last.now c.args.literal.now c.compares_in_place-in-Le.result c.compares_in_place-in-Le-2.result c.compares_in_place-in-Le.ensures c.compares_in_place-in-Le-2.ensures c.requires

pub returns-in-Gt : goal.returns-in-Gt
returns-in-Gt c = read_above c.args.op Gt gt_above c.in-Gt.is c.args.first.now c.args.last.now c.args.literal.now c.compares_in_place-in-Gt-2.result c.compares_in_place-in-Gt.result c.compares_in_place-in-Gt-2.ensures c.compares_in_place-in-Gt.ensures c.requires

pub returns-in-Ge : goal.returns-in-Ge
returns-in-Ge c = read_above c.args.op Ge ge_above c.in-Ge.is c.args.first.now c.args.last.now c.args.literal.now c.compares_in_place-in-Ge-2.result c.compares_in_place-in-Ge.result c.compares_in_place-in-Ge-2.ensures c.compares_in_place-in-Ge.ensures c.requires
