use Rattle.std.proofs.Common.{rules, ◌-◌, ◌<◌, ◌∙◌, sym, length}
use Rattle.query_engine.specs.Times.{clocks_in, query_states_at}
use Rattle.query_engine.proofs.Keeping.{query_state_idle, query_state_at, seen_there, number_within}
use Rattle.query_engine.proofs.Asking.{found_most, found_there}
use Rattle.query_engine.proofs.engine.Engine.found.Goals as goal

pub returns-clause-most : goal.returns-clause-most
returns-clause-most c =
    let within : c.args.query - 1 < length c.self.inside.query_states.items = number_within c.self.inside.schema c.self.inside.count (clocks_in c.self.inside.times) c.self.inside.query_states.items c.self.inside.peaks.items c.args.self.now c.args.query c.self.view_is c.requires.numbered in
    found_most c.self.inside.schema c.self.inside.count (query_states_at c.self.inside.count c.self.inside.query_states.items (clocks_in c.self.inside.times)) c.self.inside.peaks.items c.args.self.now c.args.query (query_state_at c.self.inside.count (clocks_in c.self.inside.times) (c.args.query - 1) c.index.result.now) c.found.result c.self.view_is c.requires.numbered (seen_there c.self.inside.count (clocks_in c.self.inside.times) c.self.inside.query_states.items (c.args.query - 1) c.index.result.now within c.index.ensures) c.found.ensures

pub returns-clause-found : goal.returns-clause-found
returns-clause-found c =
    let within : c.args.query - 1 < length c.self.inside.query_states.items = number_within c.self.inside.schema c.self.inside.count (clocks_in c.self.inside.times) c.self.inside.query_states.items c.self.inside.peaks.items c.args.self.now c.args.query c.self.view_is c.requires.numbered in
    c.found.ensures ∙ sym (found_there c.self.inside.schema c.self.inside.count (query_states_at c.self.inside.count c.self.inside.query_states.items (clocks_in c.self.inside.times)) c.self.inside.peaks.items c.args.self.now c.args.query (query_state_at c.self.inside.count (clocks_in c.self.inside.times) (c.args.query - 1) c.index.result.now) c.self.view_is c.requires.numbered (seen_there c.self.inside.count (clocks_in c.self.inside.times) c.self.inside.query_states.items (c.args.query - 1) c.index.result.now within c.index.ensures))

pub index-requires : goal.index-requires
index-requires c =
    let within : c.args.query - 1 < length c.self.inside.query_states.items = number_within c.self.inside.schema c.self.inside.count (clocks_in c.self.inside.times) c.self.inside.query_states.items c.self.inside.peaks.items c.args.self.now c.args.query c.self.view_is c.requires.numbered in
    search rules

pub found-requires : goal.found-requires
found-requires c =
    let within : c.args.query - 1 < length c.self.inside.query_states.items = number_within c.self.inside.schema c.self.inside.count (clocks_in c.self.inside.times) c.self.inside.query_states.items c.self.inside.peaks.items c.args.self.now c.args.query c.self.view_is c.requires.numbered in
    record { idle = query_state_idle c.self.inside.schema c.self.inside.count (clocks_in c.self.inside.times) c.self.inside.query_states.items c.self.inside.peaks.items (c.args.query - 1) c.index.result.now c.self.invariant.0 within c.index.ensures }
