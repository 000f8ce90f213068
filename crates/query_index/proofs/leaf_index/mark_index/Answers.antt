use Rattle.std.proofs.Common.{refl, length}
use Rattle.query_index.proofs.Listed.{room_within}
use Rattle.query_index.proofs.Indexed.{below_within}
use Rattle.query_index.proofs.Awake.{awake_sufficed}
use Rattle.query_index.proofs.leaf_index.mark_index.Goals as goal

pub mark_run-requires : goal.mark_run-requires
mark_run-requires c = record {
  leaves = c.args.leaves.now;
  sharing = c.requires.index.shared (c.is_run_for.ensures c.if-is_run_for.true);
  below = c.requires.below;
  room = c.requires.room;
}

pub mark_rows-requires-clause-below : goal.mark_rows-requires-clause-below
mark_rows-requires-clause-below c = below_within c.args.index.now.rows.items c.few_of-few.result.now c.args.leaves.now (length c.args.into.now) (c.few_of-few.ensures c.args.leaves.now c.requires.index).within c.requires.below

pub mark_rows-requires-clause-room : goal.mark_rows-requires-clause-room
mark_rows-requires-clause-room c = room_within c.args.index.now.rows.items c.few_of-few.result.now c.args.leaves.now c.args.event.now c.args.sets.now c.args.sets.now (c.few_of-few.ensures c.args.leaves.now c.requires.index).within refl c.requires.room

pub returns-then-is_run_for : goal.returns-then-is_run_for
returns-then-is_run_for c = c.mark_run.ensures c.args.leaves.now (c.requires.index.shared (c.is_run_for.ensures c.if-is_run_for.true))

pub returns : goal.returns
returns c = awake_sufficed c.args.open_queries.now c.args.index.now.rows.items c.few_of-few.result.now c.args.leaves.now c.args.event.now c.args.into.now c.mark_rows.new.into c.args.sets.now c.mark_rows.new.sets (c.few_of-few.ensures c.args.leaves.now c.requires.index) c.mark_rows.ensures
