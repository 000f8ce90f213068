use Rattle.std.proofs.Common.{subst, sym}
use Rattle.cel_terms.specs.declared.Query.{Query}
use Rattle.window_clock.specs.Places.{HasWidth, IsOf}
use Rattle.query_state.proofs.Clocks.{checked_width}
use Rattle.query_engine.proofs.GroupClocks.{one_group_of}
use Rattle.query_engine.proofs.times.Group.of.Goals as goal

pub of-requires : goal.of-requires
of-requires c = record { wide = subst (λ (q : Query). HasWidth q.window) (sym c.query.ensures) (checked_width c.args.schema.now c.args.query_state.now.query c.requires.checked) }

pub returns-clause-group : goal.returns-clause-group
returns-clause-group c queries numbered at =
    one_group_of c.args.schema.now c.args.query_state.now.query (record { query = c.args.query; implicit = c.is_position.result; clock = c.in_ok-clock.clock }) c.well_declared.ensures c.requires.checked
    (subst (λ (q : Query). IsOf c.args.schema.now q.window c.in_ok-clock.clock.source) c.query.ensures c.in_ok-clock.ensures.source) c.is_position.ensures.clock queries numbered at
