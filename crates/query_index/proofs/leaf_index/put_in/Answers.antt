use Rattle.std.proofs.Common.{◌∙◌, length, ap}
use Rattle.query_index.proofs.Listed.{same_rooms}
use Rattle.query_index.proofs.leaf_index.put_in.Goals.{then-not-contains, else-not-contains}
use Rattle.query_index.proofs.leaf_index.put_in.Goals as goal

pub returns-clause-rooms : goal.returns-clause-rooms
returns-clause-rooms c = same_rooms c.args.sets.now c.args.query c.index-sets-query.result c.insert-2.new.self (c.insert-2.ensures.room ∙ (elim c.if-not-contains.branch [
  | then-not-contains w ↦ ap length w.set-is ∙ w.clear.ensures.room
  | else-not-contains w ↦ ap length w.set-is
]))
