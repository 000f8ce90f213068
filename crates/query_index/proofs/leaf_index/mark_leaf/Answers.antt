use Rattle.std.proofs.Common.{◌∙◌, length, Some, sym, ap}
use Rattle.query_index.proofs.Listed.{marks_row, marks_not, leaf_read, room_of_leaf}
use Rattle.query_index.proofs.leaf_index.mark_leaf.Goals as goal

pub put_in-requires-clause-room : goal.put_in-requires-clause-room
put_in-requires-clause-room c = room_of_leaf c.args.row.now c.args.leaves.now c.args.event.now c.args.sets.now c.index-leaves-row.result (leaf_read (length c.args.into.now) c.args.leaves.now c.args.row.now c.index-leaves-row.result c.requires.below ∙ ap Some (sym c.index-leaves-row.is)) (sym c.holds_of.ensures ∙ c.if-holds_of.true) c.requires.room

pub returns-then-holds_of : goal.returns-then-holds_of
returns-then-holds_of c = marks_row c.args.row.now c.args.leaves.now c.args.event.now c.args.into.now c.put_in.new.into c.args.sets.now c.put_in.new.sets c.index-leaves-row.result (leaf_read (length c.args.into.now) c.args.leaves.now c.args.row.now c.index-leaves-row.result c.requires.below ∙ ap Some (sym c.index-leaves-row.is)) (sym c.holds_of.ensures ∙ c.if-holds_of.true) c.put_in.ensures.members c.put_in.ensures.room c.put_in.ensures.set c.put_in.ensures.others c.put_in.ensures.rooms

pub returns-else-holds_of : goal.returns-else-holds_of
returns-else-holds_of c = marks_not c.args.row.now c.args.leaves.now c.args.event.now c.args.into.now c.args.sets.now c.index-leaves-row.result (leaf_read (length c.args.into.now) c.args.leaves.now c.args.row.now c.index-leaves-row.result c.requires.below ∙ ap Some (sym c.index-leaves-row.is)) (sym c.holds_of.ensures ∙ c.if-holds_of.false)
