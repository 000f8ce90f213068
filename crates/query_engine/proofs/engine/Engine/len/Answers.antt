use Rattle.std.proofs.Common.{rules, ◌-◌, ◌<◌, ◌∙◌, sym, length}
use Rattle.query_engine.specs.Times.{clocks_in, query_states_at}
use Rattle.query_engine.proofs.Keeping.{query_state_idle, query_state_at, seen_there, number_within}
use Rattle.query_engine.proofs.Asking.{len_there}
use Rattle.query_engine.proofs.engine.Engine.len.Goals as goal

pub returns : goal.returns
returns c =
    let within : c.args.query - 1 < length c.self.inside.query_states.items = number_within c.self.inside.schema c.self.inside.count (clocks_in c.self.inside.times) c.self.inside.query_states.items c.self.inside.peaks.items c.args.self.now c.args.query c.self.view_is c.requires.numbered in
    c.len.ensures ∙ sym (len_there c.self.inside.schema c.self.inside.count (query_states_at c.self.inside.count c.self.inside.query_states.items (clocks_in c.self.inside.times)) c.self.inside.peaks.items c.args.self.now c.args.query (query_state_at c.self.inside.count (clocks_in c.self.inside.times) (c.args.query - 1) c.index.result.now) c.self.view_is c.requires.numbered (seen_there c.self.inside.count (clocks_in c.self.inside.times) c.self.inside.query_states.items (c.args.query - 1) c.index.result.now within c.index.ensures))

pub index-requires : goal.index-requires
index-requires c =
    let within : c.args.query - 1 < length c.self.inside.query_states.items = number_within c.self.inside.schema c.self.inside.count (clocks_in c.self.inside.times) c.self.inside.query_states.items c.self.inside.peaks.items c.args.self.now c.args.query c.self.view_is c.requires.numbered in
    search rules

pub len-requires : goal.len-requires
len-requires c =
    let within : c.args.query - 1 < length c.self.inside.query_states.items = number_within c.self.inside.schema c.self.inside.count (clocks_in c.self.inside.times) c.self.inside.query_states.items c.self.inside.peaks.items c.args.self.now c.args.query c.self.view_is c.requires.numbered in
    record { idle = query_state_idle c.self.inside.schema c.self.inside.count (clocks_in c.self.inside.times) c.self.inside.query_states.items c.self.inside.peaks.items (c.args.query - 1) c.index.result.now c.self.invariant.0 within c.index.ensures }
