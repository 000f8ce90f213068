use Rattle.std.proofs.Common.{List, Bool, sym, subst}
use Rattle.query_index.specs.Rows.{HaveRooms}
use Rattle.query_engine.proofs.dispatch.Dispatch.mark.Goals as goal

pub mark-requires-clause-rooms : goal.mark-requires-clause-rooms
mark-requires-clause-rooms c = subst (λ (sets : List (List Bool)). HaveRooms c.args.self.now.leaf_index.count c.args.self.now.leaf_index.rows c.args.self.now.leaf_index.leaves c.args.event.now sets) (sym c.as_mut_slice-leaves.ensures.value) c.requires.leaves
