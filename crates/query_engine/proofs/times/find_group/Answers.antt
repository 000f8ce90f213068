use Rattle.std.proofs.Common.{◌-◌, ◌<◌, length, slice_index_or, arith, rules}
use Rattle.std.proofs.lemmas.Option.{slice_get-get_or}
use Rattle.query_engine.proofs.GroupLoops.{at_here, schema_here, shares_here}
use Rattle.query_engine.proofs.times.find_group.Goals as goal

pub overflow_sub-groups : goal.overflow_sub-groups
overflow_sub-groups c = (c.requires.heads c.loop-g.g c.index-groups-g.result c.loop-g-test.true).0

pub bounds-query_states-groups : goal.bounds-query_states-groups
bounds-query_states-groups c =
    let h = c.requires.heads c.loop-g.g c.index-groups-g.result c.loop-g-test.true in
    let low = h.0 in
    let high = h.1 in
    omega arith

pub offset_bounds-query_states-groups : goal.offset_bounds-query_states-groups
offset_bounds-query_states-groups c =
    let h = c.requires.heads c.loop-g.g c.index-groups-g.result c.loop-g-test.true in
    let inside : (slice_index_or c.args.groups.now c.loop-g.g c.index-groups-g.result).query - 1 < length c.args.query_states.now = (let low = h.0 in let high = h.1 in omega arith) in
    search rules

pub shares_clock-requires : goal.shares_clock-requires
shares_clock-requires c =
    let h = c.requires.heads c.loop-g.g c.index-groups-g.result c.loop-g-test.true in
    let inside : (slice_index_or c.args.groups.now c.loop-g.g c.index-groups-g.result).query - 1 < length c.args.query_states.now = (let low = h.0 in let high = h.1 in omega arith) in
    record { schema = schema_here c.args.query_state.now.schema c.args.query_states.now ((slice_index_or c.args.groups.now c.loop-g.g c.index-groups-g.result).query - 1) c.index-query_states-groups.result c.requires.schemas inside c.index-query_states-groups.is }

pub returns-then-shares_clock-clause-shares : goal.returns-then-shares_clock-clause-shares
returns-then-shares_clock-clause-shares c =
    let h = c.requires.heads c.loop-g.g c.index-groups-g.result c.loop-g-test.true in
    let inside : (slice_index_or c.args.groups.now c.loop-g.g c.index-groups-g.result).query - 1 < length c.args.query_states.now = (let low = h.0 in let high = h.1 in omega arith) in
    shares_here c.args.query_state.now c.args.groups.now c.args.query_states.now c.loop-g.g (slice_index_or c.args.groups.now c.loop-g.g c.index-groups-g.result) c.index-query_states-groups.result (slice_get-get_or c.args.groups.now c.loop-g.g c.index-groups-g.result c.loop-g-test.true)
    (at_here c.args.query_states.now ((slice_index_or c.args.groups.now c.loop-g.g c.index-groups-g.result).query - 1) c.index-query_states-groups.result inside c.index-query_states-groups.is) (c.shares_clock.ensures c.if-shares_clock.true)
