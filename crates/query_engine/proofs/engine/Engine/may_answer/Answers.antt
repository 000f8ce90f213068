use Rattle.std.proofs.Common.{rules, ◌-◌, ◌<◌, ◌∙◌, None, slice_index_or, length}
use Rattle.query_engine.specs.Times.{clocks_in, query_states_at}
use Rattle.query_engine.proofs.Keeping.{query_state_idle, query_state_events, query_state_quiet, query_state_at, seen_there, number_within}
use Rattle.query_engine.proofs.Asking.{query_state_no_answer}
use Rattle.all_or_none.specs.Dormancy.{phase_at}
use Rattle.query_engine.proofs.Clocked.{same_roots_at}
use Rattle.query_engine.proofs.engine.Engine.may_answer.Goals as goal

pub may_answer-requires-clause-events : goal.may_answer-requires-clause-events
may_answer-requires-clause-events c =
    let within : c.args.query - 1 < length c.self.inside.query_states.items = number_within c.self.inside.schema c.self.inside.count (clocks_in c.self.inside.times) c.self.inside.query_states.items c.self.inside.peaks.items c.args.self.now c.args.query c.self.view_is c.requires.numbered in
    query_state_events c.self.inside.schema c.self.inside.count (clocks_in c.self.inside.times) c.self.inside.query_states.items c.self.inside.peaks.items (c.args.query - 1) c.index.result.now c.self.invariant.0 within c.index.ensures

pub may_answer-requires-clause-quiet : goal.may_answer-requires-clause-quiet
may_answer-requires-clause-quiet c =
    let within : c.args.query - 1 < length c.self.inside.query_states.items = number_within c.self.inside.schema c.self.inside.count (clocks_in c.self.inside.times) c.self.inside.query_states.items c.self.inside.peaks.items c.args.self.now c.args.query c.self.view_is c.requires.numbered in
    query_state_quiet c.self.inside.schema c.self.inside.count (clocks_in c.self.inside.times) c.self.inside.query_states.items c.self.inside.peaks.items (c.args.query - 1) c.index.result.now c.self.invariant.0 within c.index.ensures

pub returns : goal.returns
returns c =
    let within : c.args.query - 1 < length c.self.inside.query_states.items = number_within c.self.inside.schema c.self.inside.count (clocks_in c.self.inside.times) c.self.inside.query_states.items c.self.inside.peaks.items c.args.self.now c.args.query c.self.view_is c.requires.numbered in
    record { none = λ none. query_state_no_answer c.self.inside.schema c.self.inside.count (query_states_at c.self.inside.count c.self.inside.query_states.items (clocks_in c.self.inside.times)) c.self.inside.peaks.items c.args.self.now c.args.query (query_state_at c.self.inside.count (clocks_in c.self.inside.times) (c.args.query - 1) c.index.result.now) c.self.view_is c.requires.seen c.requires.numbered (seen_there c.self.inside.count (clocks_in c.self.inside.times) c.self.inside.query_states.items (c.args.query - 1) c.index.result.now within c.index.ensures) (same_roots_at c.index.result.now.query (phase_at c.self.inside.count c.index.result.now).kept (slice_index_or (clocks_in c.self.inside.times) (c.args.query - 1) None) ∙ c.may_answer.ensures.none none) }

pub index-requires : goal.index-requires
index-requires c =
    let within : c.args.query - 1 < length c.self.inside.query_states.items = number_within c.self.inside.schema c.self.inside.count (clocks_in c.self.inside.times) c.self.inside.query_states.items c.self.inside.peaks.items c.args.self.now c.args.query c.self.view_is c.requires.numbered in
    search rules

pub may_answer-requires-clause-idle : goal.may_answer-requires-clause-idle
may_answer-requires-clause-idle c =
    let within : c.args.query - 1 < length c.self.inside.query_states.items = number_within c.self.inside.schema c.self.inside.count (clocks_in c.self.inside.times) c.self.inside.query_states.items c.self.inside.peaks.items c.args.self.now c.args.query c.self.view_is c.requires.numbered in
    query_state_idle c.self.inside.schema c.self.inside.count (clocks_in c.self.inside.times) c.self.inside.query_states.items c.self.inside.peaks.items (c.args.query - 1) c.index.result.now c.self.invariant.0 within c.index.ensures
