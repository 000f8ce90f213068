use Rattle.std.proofs.Common.{refl, length}
use Rattle.std.proofs.lemmas.Option.{slice_get_read}
use Rattle.predicate_bits.proofs.Collected.{grouped_none, grouped_more, grouped_all}
use Rattle.predicate_bits.proofs.groups.grouped.Goals as goal

pub loop-k-init : goal.loop-k-init
loop-k-init c = grouped_none c.args.list.now c.in_ok-groups.groups.items c.in_ok-types_above.field-0 c.in_ok-types_above.ensures c.in_ok-groups.ensures.count c.in_ok-groups.ensures.empty

pub loop-k-preserved : goal.loop-k-preserved
loop-k-preserved c =
    let here = slice_get_read c.args.list.now (length c.args.list.now) c.loop-k.k c.index-list-k.result refl c.loop-k-test.true c.index-list-k.is in
    grouped_more c.loop-k.k c.args.list.now c.loop-k.groups.items c.add.new.groups.items c.index-list-k.result c.loop-k.invariant here c.in_ok-add.ensures

pub returns : goal.returns
returns c = grouped_all c.args.list.now c.loop-k.groups.items c.loop-k.k c.loop-k-test.false c.loop-k.invariant
