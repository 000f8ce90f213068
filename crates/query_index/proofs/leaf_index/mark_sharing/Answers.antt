use Rattle.query_index.proofs.SharedRows.{marks_sharing, marks_no_sharing}
use Rattle.query_index.proofs.leaf_index.mark_sharing.Goals as goal

pub returns-then-reads : goal.returns-then-reads
returns-then-reads c = λ leaves tests r event is fails.
    let yes = c.reads.ensures.yes c.if-reads.true in
    marks_sharing c.args.open_queries.now leaves tests r c.args.row.now c.args.failing event c.args.into.now c.put_in.new.into c.args.sets.now c.put_in.new.sets is fails yes.0 yes.1 c.put_in.ensures.members c.put_in.ensures.room c.put_in.ensures.set c.put_in.ensures.others c.put_in.ensures.rooms

pub returns-else-reads : goal.returns-else-reads
returns-else-reads c = λ leaves tests r event is fails. marks_no_sharing c.args.open_queries.now leaves tests r c.args.row.now c.args.failing event c.args.into.now c.args.sets.now is fails (c.reads.ensures.not c.if-reads.false)
