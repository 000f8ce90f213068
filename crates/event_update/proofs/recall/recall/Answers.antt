use Rattle.std.proofs.Common.{◌∙◌}
use Rattle.event_update.specs.ActiveLists.{keys}
use Rattle.event_update.proofs.Recalled.{row_cached, row_is}
use Rattle.event_update.proofs.recall.recall.Goals as goal

pub returns-then-are_states-clause-row : goal.returns-then-are_states-clause-row
returns-then-are_states-clause-row g c = row_is c.args.lazy_dfa.now c.cached_transition.ensures.sound c.in-Some.row.now c.args.event_class (keys c.args.active.now) c.in-Some.ensures.listed c.if-row-event_class.true (c.are_states.ensures c.if-are_states.true ∙ c.as_slice.ensures)

pub returns-then-are_states-clause-cached : goal.returns-then-are_states-clause-cached
returns-then-are_states-clause-cached g c = row_cached c.args.lazy_dfa.now c.cached_transition.ensures.sound c.in-Some.row.now c.args.event_class (keys c.args.active.now) c.in-Some.ensures.listed c.if-row-event_class.true (c.are_states.ensures c.if-are_states.true ∙ c.as_slice.ensures)
