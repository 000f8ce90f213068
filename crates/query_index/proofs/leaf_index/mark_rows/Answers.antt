use Rattle.std.proofs.Common.{◌+◌, sym, subst, take}
use Rattle.query_index.specs.Rows.{awake, Marks}
use Rattle.query_index.proofs.Listed.{marks_none, row_within, room_of_row}
use Rattle.query_index.proofs.Awake.{awake_next, past_next, awake_all}
use Rattle.query_index.proofs.leaf_index.mark_rows.Goals.{then-looks_at, else-looks_at}
use Rattle.query_index.proofs.leaf_index.mark_rows.Goals as goal

pub loop-row-init : goal.loop-row-init
loop-row-init c = marks_none c.args.leaves.now c.args.event.now c.args.into.now c.args.sets.now

pub mark_leaf-requires-clause-below : goal.mark_leaf-requires-clause-below
mark_leaf-requires-clause-below c = row_within c.args.rows.now c.loop-row.row-index _ c.args.leaves.now c.args.into.now c.loop-row.into c.requires.below c.loop-row-test.true c.loop-row.invariant.room

pub mark_leaf-requires-clause-room : goal.mark_leaf-requires-clause-room
mark_leaf-requires-clause-room c = room_of_row c.args.rows.now c.loop-row.row-index _ c.args.leaves.now c.args.event.now c.args.sets.now c.loop-row.sets c.loop-row-test.true c.loop-row.invariant.rooms c.requires.room

pub loop-row-preserved : goal.loop-row-preserved
loop-row-preserved c = elim c.if-looks_at.branch [
  | then-looks_at w ↦ (
      let m = awake_next c.args.open_queries.now c.loop-row.row-index c.args.rows.now _ c.args.leaves.now c.args.event.now c.args.into.now c.loop-row.into w.mark_leaf.new.into c.args.sets.now c.loop-row.sets w.mark_leaf.new.sets c.loop-row-test.true c.loop-row.invariant (c.looks_at.ensures.awake w.if-looks_at.true) w.mark_leaf.ensures in
      subst (λ x. Marks (awake c.args.open_queries.now (take (c.loop-row.row-index + 1) c.args.rows.now)) c.args.leaves.now c.args.event.now c.args.into.now x c.args.sets.now c.if-looks_at.sets) (sym w.into-is) (subst (λ x. Marks (awake c.args.open_queries.now (take (c.loop-row.row-index + 1) c.args.rows.now)) c.args.leaves.now c.args.event.now c.args.into.now w.mark_leaf.new.into c.args.sets.now x) (sym w.sets-is) m)
      )
  | else-looks_at w ↦ (
      let m = past_next c.args.open_queries.now c.loop-row.row-index c.args.rows.now _ c.args.leaves.now c.args.event.now _ c.args.into.now c.loop-row.into c.args.sets.now c.loop-row.sets c.loop-row-test.true c.loop-row.invariant (c.requires.below c.loop-row.row-index _ c.loop-row-test.true) (λ holds asks opens is. c.looks_at.ensures.not holds asks opens w.if-looks_at.false is) in
      subst (λ x. Marks (awake c.args.open_queries.now (take (c.loop-row.row-index + 1) c.args.rows.now)) c.args.leaves.now c.args.event.now c.args.into.now x c.args.sets.now c.if-looks_at.sets) (sym w.into-is) (subst (λ x. Marks (awake c.args.open_queries.now (take (c.loop-row.row-index + 1) c.args.rows.now)) c.args.leaves.now c.args.event.now c.args.into.now c.loop-row.into c.args.sets.now x) (sym w.sets-is) m)
      )
]

pub returns : goal.returns
returns c = awake_all c.args.open_queries.now c.loop-row.row-index c.args.rows.now c.args.leaves.now c.args.event.now c.args.into.now c.loop-row.into c.args.sets.now c.loop-row.sets c.loop-row-test.false c.loop-row.invariant
