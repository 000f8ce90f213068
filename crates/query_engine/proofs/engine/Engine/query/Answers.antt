use Rattle.std.proofs.Common.{rules, ◌-◌, ◌<◌, ◌∙◌, Some, ap, sym, length}
use Rattle.query_engine.specs.Times.{clocks_in, query_states_at}
use Rattle.query_engine.proofs.Keeping.{query_state_at, seen_there, number_within}
use Rattle.query_engine.proofs.Asking.{query_there}
use Rattle.query_engine.proofs.engine.Engine.query.Goals as goal

pub returns : goal.returns
returns c =
    let within : c.args.number - 1 < length c.self.inside.query_states.items = number_within c.self.inside.schema c.self.inside.count (clocks_in c.self.inside.times) c.self.inside.query_states.items c.self.inside.peaks.items c.args.self.now c.args.number c.self.view_is c.requires in
    query_there c.self.inside.schema c.self.inside.count (query_states_at c.self.inside.count c.self.inside.query_states.items (clocks_in c.self.inside.times)) c.self.inside.peaks.items c.args.self.now c.args.number (query_state_at c.self.inside.count (clocks_in c.self.inside.times) (c.args.number - 1) c.index.result.now) c.self.view_is c.requires (seen_there c.self.inside.count (clocks_in c.self.inside.times) c.self.inside.query_states.items (c.args.number - 1) c.index.result.now within c.index.ensures) ∙ ap Some (sym c.query.ensures)

pub index-requires : goal.index-requires
index-requires c =
    let within : c.args.number - 1 < length c.self.inside.query_states.items = number_within c.self.inside.schema c.self.inside.count (clocks_in c.self.inside.times) c.self.inside.query_states.items c.self.inside.peaks.items c.args.self.now c.args.number c.self.view_is c.requires in
    search rules
