use Rattle.std.proofs.Common.{refl, sym, subst, length}
use Rattle.query_index.specs.Index.{IsIndex}
use Rattle.query_index.specs.Rows.{awake, Marks}
use Rattle.query_index.specs.declared.index.Index.{Index}
use Rattle.query_index.proofs.Listed.{marks_none}
use Rattle.query_index.proofs.Indexed.{suffice_all, few_below, few_room}
use Rattle.query_index.proofs.Awake.{awake_index, awake_indexes}
use Rattle.query_index.proofs.leaf_index.mark_indexed.Goals as goal

pub loop-index-init : goal.loop-index-init
loop-index-init c = marks_none c.args.leaves.now c.args.event.now c.args.into.now c.args.sets.now

pub mark_index-requires-clause-index : goal.mark_index-requires-clause-index
mark_index-requires-clause-index c = subst (IsIndex c.args.leaves.now) (sym c.index-item.is) (c.requires.indexes c.loop-index.index-index c.index-item.result c.loop-index-test.true)

pub mark_index-requires-clause-below : goal.mark_index-requires-clause-below
mark_index-requires-clause-below c =
    let rows = c.index-item.result.rows.items in
    few_below c.args.indexes.now c.loop-index.index-index c.index-item.result c.args.leaves.now c.args.event.now rows (length c.args.into.now) (length c.loop-index.into) c.loop-index-test.true c.index-item.is c.requires.indexes (λ ls is. suffice_all ls rows rows c.args.event.now refl) c.requires.below c.loop-index.invariant.room

pub mark_index-requires-clause-room : goal.mark_index-requires-clause-room
mark_index-requires-clause-room c =
    let rows = c.index-item.result.rows.items in
    few_room c.args.indexes.now c.loop-index.index-index c.index-item.result c.args.leaves.now c.args.event.now rows c.args.sets.now c.loop-index.sets c.loop-index-test.true c.index-item.is c.requires.indexes (λ ls is. suffice_all ls rows rows c.args.event.now refl) c.loop-index.invariant.rooms c.requires.room

pub loop-index-preserved : goal.loop-index-preserved
loop-index-preserved c = awake_index c.args.open_queries.now c.args.indexes.now c.loop-index.index-index c.index-item.result c.args.leaves.now c.args.event.now c.args.into.now c.loop-index.into c.mark_index.new.into c.args.sets.now c.loop-index.sets c.mark_index.new.sets c.loop-index-test.true c.loop-index.invariant (subst (λ (i : Index). Marks (awake c.args.open_queries.now i.rows.items) c.args.leaves.now c.args.event.now c.loop-index.into c.mark_index.new.into c.loop-index.sets c.mark_index.new.sets) c.index-item.is c.mark_index.ensures)

pub returns : goal.returns
returns c = awake_indexes c.args.open_queries.now c.args.indexes.now c.loop-index.index-index c.args.leaves.now c.args.event.now c.args.into.now c.loop-index.into c.args.sets.now c.loop-index.sets c.loop-index-test.false c.loop-index.invariant
