use Rattle.std.proofs.Common.{refl, length, [], slice_index_or}
use Rattle.event_update.specs.Update.{rows_after}
use Rattle.query_state.specs.declared.lists.Lists.{Lists}
use Rattle.query_state.specs.Matches.{MayBeDormant}
use Rattle.query_state.proofs.Cuts.{row_put}
use Rattle.query_state.proofs.Dormant.{noted_all, count_kept}
use Rattle.query_state.proofs.lists.put_lists.Goals as goal

pub returns-clause-rows : goal.returns-clause-rows
returns-clause-rows c = row_put (λ (l : Lists). l.active.entries) (λ rows. rows_after rows c.args.staged) c.args.lists.now _ c.args.number c.put.new.self c.index-lists-number.result [] refl c.requires.inside c.put.ensures.rows

pub returns-clause-is_dormant : goal.returns-clause-is_dormant
returns-clause-is_dormant c t sets dormant_states all = noted_all (MayBeDormant t sets) c.args.lists.now c.args.number c.put.new.self all (c.put.ensures.is_dormant t sets (dormant_states, all c.args.number c.index-lists-number.result c.requires.inside))

pub returns-clause-active_keys : goal.returns-clause-active_keys
returns-clause-active_keys c = count_kept c.args.lists.now c.args.number c.index-lists-number.result c.put.new.self c.args.active_keys.now (length c.args.lists.now) c.recount.result (slice_index_or c.args.lists.now c.args.number c.index-lists-number.result).is_dormant c.put.new.self.is_dormant c.requires.inside c.requires.active_keys refl refl refl c.recount.ensures.same c.recount.ensures.fewer c.recount.ensures.more
