use Rattle.std.proofs.Common.{rules, ◌-◌, ◌<◌, ◌∙◌, sym, ap₂, length, arith}
use Rattle.std.proofs.lemmas.List.{get_or_default}
use Rattle.std.specs.Prelude.{max}
use Rattle.query_engine.specs.Times.{clocks_in, query_states_at}
use Rattle.query_engine.proofs.Keeping.{query_state_idle, query_state_at, seen_there, number_within}
use Rattle.query_engine.proofs.Asking.{peak_there}
use Rattle.query_engine.proofs.engine.Engine.peak.Goals as goal

pub returns : goal.returns
returns c =
    let within : c.args.query - 1 < length c.self.inside.query_states.items = number_within c.self.inside.schema c.self.inside.count (clocks_in c.self.inside.times) c.self.inside.query_states.items c.self.inside.peaks.items c.args.self.now c.args.query c.self.view_is c.requires.numbered in
    let there = peak_there c.self.inside.schema c.self.inside.count (query_states_at c.self.inside.count c.self.inside.query_states.items (clocks_in c.self.inside.times)) c.self.inside.peaks.items c.args.self.now c.args.query (query_state_at c.self.inside.count (clocks_in c.self.inside.times) (c.args.query - 1) c.index.result.now) c.self.view_is c.requires.numbered (seen_there c.self.inside.count (clocks_in c.self.inside.times) c.self.inside.query_states.items (c.args.query - 1) c.index.result.now within c.index.ensures) in
    let inside : c.args.query - 1 < length c.self.inside.peaks.items = (let l = c.self.invariant.0.peaks_are in omega arith) in
    let before = c.index-before.ensures ∙ get_or_default c.self.inside.peaks.items (c.args.query - 1) c.index-before.result.now 0 inside in
    c.max.ensures ∙ (ap₂ max before c.len.ensures ∙ sym there)

pub index-before-requires : goal.index-before-requires
index-before-requires c =
    let within : c.args.query - 1 < length c.self.inside.query_states.items = number_within c.self.inside.schema c.self.inside.count (clocks_in c.self.inside.times) c.self.inside.query_states.items c.self.inside.peaks.items c.args.self.now c.args.query c.self.view_is c.requires.numbered in
    let inside : c.args.query - 1 < length c.self.inside.peaks.items = (let l = c.self.invariant.0.peaks_are in omega arith) in
    search rules

pub index-requires : goal.index-requires
index-requires c =
    let within : c.args.query - 1 < length c.self.inside.query_states.items = number_within c.self.inside.schema c.self.inside.count (clocks_in c.self.inside.times) c.self.inside.query_states.items c.self.inside.peaks.items c.args.self.now c.args.query c.self.view_is c.requires.numbered in
    search rules

pub len-requires : goal.len-requires
len-requires c =
    let within : c.args.query - 1 < length c.self.inside.query_states.items = number_within c.self.inside.schema c.self.inside.count (clocks_in c.self.inside.times) c.self.inside.query_states.items c.self.inside.peaks.items c.args.self.now c.args.query c.self.view_is c.requires.numbered in
    record { idle = query_state_idle c.self.inside.schema c.self.inside.count (clocks_in c.self.inside.times) c.self.inside.query_states.items c.self.inside.peaks.items (c.args.query - 1) c.index.result.now c.self.invariant.0 within c.index.ensures }
