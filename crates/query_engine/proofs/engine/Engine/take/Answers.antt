use Rattle.std.proofs.Common.{◌≡◌, ◌+◌, ◌∙◌, List, Bool, map, length, true, false, refl, sym, ap, subst, arith}
use Rattle.std.proofs.lemmas.Bool.{false≢true}
use Rattle.std.specs.Vec.{with_items}
use Rattle.std.proofs.lemmas.List.{with_items_is}
use Rattle.cer_base.specs.Bits.{has}
use Rattle.all_or_none.specs.declared.Activity.{Activity}
use Rattle.all_or_none.specs.Phases.{Phase, MayAnswer, AreLeft, AreRead, AreSpared, AreUnread}
use Rattle.all_or_none.specs.Dormancy.{phase_at}
use Rattle.query_engine.specs.Times.{clocks_in, query_states_at}
use Rattle.query_engine.proofs.Keeping.{keeping, kept_back, state_back, seen_queries, query_states_queries}
use Rattle.query_engine.proofs.Noting.{queries_of, of_inside, can_note, go_on, times_on, times_same}
use Rattle.query_engine.proofs.Taking.{HasSeen, took, can_take, took_running, took_stands, took_cursors, took_same, took_growth, took_unread, took_peak, steps_within, steps_wanted}
use Rattle.query_engine.proofs.Added.{took_added}
use Rattle.query_engine.proofs.Keys.{took_keys}
use Rattle.query_engine.proofs.Growth.{same_queries}
use Rattle.query_engine.proofs.Named.{noted_same}
use Rattle.query_engine.proofs.Dispatched.{goes, read_marked, spared_marked, unread_marked, watching_same, room_there, rooms_there, as_many_sets}
use Rattle.query_engine.proofs.engine.Engine.take.Goals as goal

pub see-requires-clause-can : goal.see-requires-clause-can
see-requires-clause-can g c = can_take c.self.inside.schema c.self.inside.count (clocks_in c.self.inside.times) c.self.inside.query_states.items c.as_mut_slice-query_states.result.now c.self.inside.peaks.items c.args.self.now c.args.event.now c.self.view_is c.self.invariant.0 c.requires.of_schema c.requires.in_time c.as_mut_slice-query_states.ensures.value

pub mark-some_active_queries-requires-clause-room : goal.mark-some_active_queries-requires-clause-room
mark-some_active_queries-requires-clause-room g c = room_there c.self.inside.schema (queries_of c.self.inside.query_states.items) c.self.inside.count c.self.inside.query_states.items c.self.inside.dispatch.leaf_index c.self.inside.dispatch.activity c.self.inside.dispatch.marked c.self.inside.dispatch.read c.self.inside.dispatch.leaves.items c.self.invariant.2

pub mark-some_active_queries-requires-clause-leaves : goal.mark-some_active_queries-requires-clause-leaves
mark-some_active_queries-requires-clause-leaves g c = rooms_there c.self.inside.schema (queries_of c.self.inside.query_states.items) c.self.inside.count c.self.inside.query_states.items c.self.inside.dispatch.leaf_index c.self.inside.dispatch.activity c.self.inside.dispatch.marked c.self.inside.dispatch.read c.self.inside.dispatch.leaves.items c.args.event.now c.self.invariant.2

pub mark-some_active_queries-requires-clause-sets : goal.mark-some_active_queries-requires-clause-sets
mark-some_active_queries-requires-clause-sets g c = c.self.invariant.2.sets

pub mark-some_active_queries-requires-clause-reads : goal.mark-some_active_queries-requires-clause-reads
mark-some_active_queries-requires-clause-reads g c = c.self.invariant.2.reads

pub see-requires-clause-left : goal.see-requires-clause-left
see-requires-clause-left g c =
    subst (λ (b : Activity). AreLeft phase_at c.self.inside.count b c.as_mut_slice-query_states.result.now) (sym c.mark-some_active_queries.ensures.same.1)
    (subst (λ (ps : List Phase). AreLeft phase_at c.self.inside.count c.self.inside.dispatch.activity ps) (sym c.as_mut_slice-query_states.ensures.value) c.self.invariant.2.left)

pub see-requires-clause-active : goal.see-requires-clause-active
see-requires-clause-active g c k is = (goes c.mark-some_active_queries.result c.self.inside.dispatch.activity.active_queries c.mark-some_active_queries.new.self.marked c.mark-some_active_queries.new.self.read c.goes_to-marked.result.now c.mark-some_active_queries.ensures.active_queries c.mark-some_active_queries.ensures.marked c.mark-some_active_queries.ensures.either c.mark-some_active_queries.ensures.none (c.mark-some_active_queries.ensures.sets ∙ c.self.invariant.2.sets) (c.mark-some_active_queries.ensures.reads ∙ c.self.invariant.2.reads) c.goes_to-marked.ensures.active_queries c.goes_to-marked.ensures.none).within k (subst (λ (b : Activity). has b.active_queries k ≡ true) c.mark-some_active_queries.ensures.same.1 is)

pub see-requires-clause-spared : goal.see-requires-clause-spared
see-requires-clause-spared g c =
    subst (λ (b : Activity). AreSpared (phase_at c.self.inside.count) c.args.event.now c.goes_to-marked.result.now b.open_queries c.as_mut_slice-query_states.result.now) (sym c.mark-some_active_queries.ensures.same.1)
    (subst (λ (ps : List Phase). AreSpared (phase_at c.self.inside.count) c.args.event.now c.goes_to-marked.result.now c.self.inside.dispatch.activity.open_queries ps) (sym c.as_mut_slice-query_states.ensures.value)
    (spared_marked c.self.inside.schema (queries_of c.self.inside.query_states.items) c.self.inside.count c.self.inside.query_states.items c.self.inside.dispatch.leaf_index c.self.inside.dispatch.activity c.self.inside.dispatch.marked c.self.inside.dispatch.read c.self.inside.dispatch.leaves.items c.args.event.now refl c.self.invariant.0.schemas c.self.invariant.2 c.mark-some_active_queries.new.self.read c.mark-some_active_queries.ensures.read c.goes_to-marked.result.now (goes c.mark-some_active_queries.result c.self.inside.dispatch.activity.active_queries c.mark-some_active_queries.new.self.marked c.mark-some_active_queries.new.self.read c.goes_to-marked.result.now c.mark-some_active_queries.ensures.active_queries c.mark-some_active_queries.ensures.marked c.mark-some_active_queries.ensures.either c.mark-some_active_queries.ensures.none (c.mark-some_active_queries.ensures.sets ∙ c.self.invariant.2.sets) (c.mark-some_active_queries.ensures.reads ∙ c.self.invariant.2.reads) c.goes_to-marked.ensures.active_queries c.goes_to-marked.ensures.none).reads))

pub see-requires-clause-reading : goal.see-requires-clause-reading
see-requires-clause-reading g c =
    subst (λ (sets : List (List Bool)). AreRead (phase_at c.self.inside.count) c.args.event.now c.mark-some_active_queries.new.self.read sets c.as_mut_slice-query_states.result.now) (sym c.as_slice-leaves.ensures.value)
    (subst (λ (ps : List Phase). AreRead (phase_at c.self.inside.count) c.args.event.now c.mark-some_active_queries.new.self.read c.mark-some_active_queries.new.self.leaves.items ps) (sym c.as_mut_slice-query_states.ensures.value)
    (read_marked c.self.inside.schema (queries_of c.self.inside.query_states.items) c.self.inside.count c.self.inside.query_states.items c.self.inside.dispatch.leaf_index c.self.inside.dispatch.activity c.self.inside.dispatch.marked c.self.inside.dispatch.read c.mark-some_active_queries.new.self.read c.self.inside.dispatch.leaves.items c.mark-some_active_queries.new.self.leaves.items c.args.event.now refl c.self.invariant.0.schemas c.self.invariant.2 c.mark-some_active_queries.ensures.rooms c.mark-some_active_queries.ensures.leaves))

pub see-requires-clause-leaves : goal.see-requires-clause-leaves
see-requires-clause-leaves g c =
    ap (λ (sets : List (List Bool)). length sets) c.as_slice-leaves.ensures.value
    ∙ (as_many_sets c.self.inside.schema (queries_of c.self.inside.query_states.items) c.self.inside.count c.self.inside.query_states.items c.self.inside.dispatch.leaf_index c.self.inside.dispatch.activity c.self.inside.dispatch.marked c.self.inside.dispatch.read c.self.inside.dispatch.leaves.items c.mark-some_active_queries.new.self.leaves.items refl c.mark-some_active_queries.ensures.rooms c.self.invariant.2
    ∙ ap (λ (ps : List Phase). length ps) (sym c.as_mut_slice-query_states.ensures.value))

pub see-requires-clause-unread : goal.see-requires-clause-unread
see-requires-clause-unread g c =
    subst (λ (ps : List Phase). AreUnread (phase_at c.self.inside.count) c.args.event.now c.goes_to-marked.result.now c.mark-some_active_queries.new.self.read ps) (sym c.as_mut_slice-query_states.ensures.value)
    (unread_marked c.self.inside.schema (queries_of c.self.inside.query_states.items) c.self.inside.count c.self.inside.query_states.items c.self.inside.dispatch.leaf_index c.self.inside.dispatch.activity c.self.inside.dispatch.marked c.self.inside.dispatch.read c.self.inside.dispatch.leaves.items c.args.event.now refl c.self.invariant.0.schemas c.self.invariant.2 c.mark-some_active_queries.new.self.read c.mark-some_active_queries.ensures.read c.goes_to-marked.result.now (goes c.mark-some_active_queries.result c.self.inside.dispatch.activity.active_queries c.mark-some_active_queries.new.self.marked c.mark-some_active_queries.new.self.read c.goes_to-marked.result.now c.mark-some_active_queries.ensures.active_queries c.mark-some_active_queries.ensures.marked c.mark-some_active_queries.ensures.either c.mark-some_active_queries.ensures.none (c.mark-some_active_queries.ensures.sets ∙ c.self.invariant.2.sets) (c.mark-some_active_queries.ensures.reads ∙ c.self.invariant.2.reads) c.goes_to-marked.ensures.active_queries c.goes_to-marked.ensures.none).only)

pub see-requires-clause-sets : goal.see-requires-clause-sets
see-requires-clause-sets g c =
    let room = (goes c.mark-some_active_queries.result c.self.inside.dispatch.activity.active_queries c.mark-some_active_queries.new.self.marked c.mark-some_active_queries.new.self.read c.goes_to-marked.result.now c.mark-some_active_queries.ensures.active_queries c.mark-some_active_queries.ensures.marked c.mark-some_active_queries.ensures.either c.mark-some_active_queries.ensures.none (c.mark-some_active_queries.ensures.sets ∙ c.self.invariant.2.sets) (c.mark-some_active_queries.ensures.reads ∙ c.self.invariant.2.reads) c.goes_to-marked.ensures.active_queries c.goes_to-marked.ensures.none).room in
    (ap (λ (b : Activity). length b.active_queries) c.mark-some_active_queries.ensures.same.1 ∙ sym room, ap (λ (b : Activity). length b.open_queries) c.mark-some_active_queries.ensures.same.1 ∙ (c.self.invariant.2.open_room ∙ sym room))

pub invariant_of-self : goal.invariant_of-self
invariant_of-self g c =
    let long : length c.see.new.query_states ≡ c.self.inside.query_states.len = (let e = c.as_mut_slice-query_states.ensures.len in let f = c.see.auto.query_states in omega arith) in
    let new = (with_items c.self.inside.query_states c.see.new.query_states).items in
    let is = with_items_is c.self.inside.query_states c.see.new.query_states long in
    let of = of_inside c.self.inside.schema c.self.inside.count (query_states_at c.self.inside.count c.self.inside.query_states.items (clocks_in c.self.inside.times)) c.self.inside.peaks.items c.args.self.now c.args.event.now c.self.view_is c.requires.of_schema in
    let goes = go_on c.self.inside.schema (queries_of c.self.inside.query_states.items) c.self.inside.times c.self.invariant.3 c.args.event.now of c.self.inside.count c.note.new.self c.note.ensures.moved c.note.ensures.same in
    let has_seen : HasSeen c.self.inside.count c.args.event.now c.as_mut_slice-query_states.result.now c.see.new.query_states = record { grown = c.in-Ok.ensures.grown; idle = c.in-Ok.ensures.idle; quiet = c.in-Ok.ensures.quiet; stands = c.in-Ok.ensures.stands } in
    let t = took c.self.inside.schema c.self.inside.count (clocks_in c.self.inside.times) (clocks_in c.note.new.self) c.self.inside.query_states.items c.as_mut_slice-query_states.result.now c.self.inside.peaks.items c.args.self.now c.args.event.now c.see.new.query_states new c.self.view_is c.self.invariant.0 c.requires.in_time c.as_mut_slice-query_states.ensures.value has_seen goes is in
    let old = c.self.inside.query_states.items in
    let before = query_states_at c.self.inside.count old (clocks_in c.self.inside.times) in
    let after = query_states_at (c.self.inside.count + 1) new (clocks_in c.note.new.self) in
    let queries : queries_of new ≡ queries_of old = sym (query_states_queries (c.self.inside.count + 1) new (clocks_in c.note.new.self)) ∙ (same_queries c.args.event.now before after t.grown ∙ query_states_queries c.self.inside.count old (clocks_in c.self.inside.times)) in (
      keeping c.self.inside.schema (c.self.inside.count + 1) (clocks_in c.note.new.self) new c.self.inside.peaks.items (took_running c.self.inside.schema c.self.inside.count before c.self.inside.peaks.items c.args.event.now after t c.args.self.now c.self.view_is),
      noted_same (queries_of old) (queries_of new) (map (phase_at c.self.inside.count) old) (map (phase_at (c.self.inside.count + 1)) new) c.self.inside.told true c.self.inside.touched.items c.see.new.touched.items c.self.inside.all.items queries c.self.invariant.1
          (λ told. subst (λ (ps : List Phase). MayAnswer c.see.new.touched.items (map (phase_at (c.self.inside.count + 1)) ps)) (sym is) c.in-Ok.ensures.answering),
      watching_same c.self.inside.schema (queries_of old) (queries_of new) c.self.inside.count (c.self.inside.count + 1) c.self.inside.query_states.items new c.self.inside.dispatch.leaf_index c.mark-some_active_queries.new.self.leaf_index c.self.inside.dispatch.activity c.see.new.activity c.self.inside.dispatch.marked c.self.inside.dispatch.read c.mark-some_active_queries.new.self.marked c.mark-some_active_queries.new.self.read c.self.inside.dispatch.leaves.items c.mark-some_active_queries.new.self.leaves.items queries
          c.mark-some_active_queries.ensures.same.0 (c.see.ensures.sets.0 ∙ ap (λ (b : Activity). length b.active_queries) c.mark-some_active_queries.ensures.same.1, c.see.ensures.sets.1 ∙ ap (λ (b : Activity). length b.open_queries) c.mark-some_active_queries.ensures.same.1) c.mark-some_active_queries.ensures.sets c.mark-some_active_queries.ensures.reads c.mark-some_active_queries.ensures.rooms (subst (λ (ps : List Phase). AreLeft phase_at (c.self.inside.count + 1) c.see.new.activity ps) (sym is) c.in-Ok.ensures.left) c.self.invariant.2,
      times_same c.self.inside.schema (queries_of old) (queries_of new) c.note.new.self queries (times_on c.self.inside.schema (queries_of old) c.self.inside.times c.self.invariant.3 c.args.event.now of c.self.inside.count c.note.new.self c.note.ensures.moved c.note.ensures.same),
    )

pub returns-in-Ok-clause-stands : goal.returns-in-Ok-clause-stands
returns-in-Ok-clause-stands g c =
    let long : length c.see.new.query_states ≡ c.self.inside.query_states.len = (let e = c.as_mut_slice-query_states.ensures.len in let f = c.see.auto.query_states in omega arith) in
    let new = (with_items c.self.inside.query_states c.see.new.query_states).items in
    let is = with_items_is c.self.inside.query_states c.see.new.query_states long in
    let of = of_inside c.self.inside.schema c.self.inside.count (query_states_at c.self.inside.count c.self.inside.query_states.items (clocks_in c.self.inside.times)) c.self.inside.peaks.items c.args.self.now c.args.event.now c.self.view_is c.requires.of_schema in
    let goes = go_on c.self.inside.schema (queries_of c.self.inside.query_states.items) c.self.inside.times c.self.invariant.3 c.args.event.now of c.self.inside.count c.note.new.self c.note.ensures.moved c.note.ensures.same in
    let has_seen : HasSeen c.self.inside.count c.args.event.now c.as_mut_slice-query_states.result.now c.see.new.query_states = record { grown = c.in-Ok.ensures.grown; idle = c.in-Ok.ensures.idle; quiet = c.in-Ok.ensures.quiet; stands = c.in-Ok.ensures.stands } in
    let t = took c.self.inside.schema c.self.inside.count (clocks_in c.self.inside.times) (clocks_in c.note.new.self) c.self.inside.query_states.items c.as_mut_slice-query_states.result.now c.self.inside.peaks.items c.args.self.now c.args.event.now c.see.new.query_states new c.self.view_is c.self.invariant.0 c.requires.in_time c.as_mut_slice-query_states.ensures.value has_seen goes is in
    took_stands c.self.inside.schema c.self.inside.count (query_states_at c.self.inside.count c.self.inside.query_states.items (clocks_in c.self.inside.times)) c.self.inside.peaks.items c.args.event.now (query_states_at (c.self.inside.count + 1) new (clocks_in c.note.new.self)) t c.args.self.now c.self.view_is

pub returns-in-Ok-clause-cursors : goal.returns-in-Ok-clause-cursors
returns-in-Ok-clause-cursors g c =
    let long : length c.see.new.query_states ≡ c.self.inside.query_states.len = (let e = c.as_mut_slice-query_states.ensures.len in let f = c.see.auto.query_states in omega arith) in
    let new = (with_items c.self.inside.query_states c.see.new.query_states).items in
    let is = with_items_is c.self.inside.query_states c.see.new.query_states long in
    let of = of_inside c.self.inside.schema c.self.inside.count (query_states_at c.self.inside.count c.self.inside.query_states.items (clocks_in c.self.inside.times)) c.self.inside.peaks.items c.args.self.now c.args.event.now c.self.view_is c.requires.of_schema in
    let goes = go_on c.self.inside.schema (queries_of c.self.inside.query_states.items) c.self.inside.times c.self.invariant.3 c.args.event.now of c.self.inside.count c.note.new.self c.note.ensures.moved c.note.ensures.same in
    let has_seen : HasSeen c.self.inside.count c.args.event.now c.as_mut_slice-query_states.result.now c.see.new.query_states = record { grown = c.in-Ok.ensures.grown; idle = c.in-Ok.ensures.idle; quiet = c.in-Ok.ensures.quiet; stands = c.in-Ok.ensures.stands } in
    let t = took c.self.inside.schema c.self.inside.count (clocks_in c.self.inside.times) (clocks_in c.note.new.self) c.self.inside.query_states.items c.as_mut_slice-query_states.result.now c.self.inside.peaks.items c.args.self.now c.args.event.now c.see.new.query_states new c.self.view_is c.self.invariant.0 c.requires.in_time c.as_mut_slice-query_states.ensures.value has_seen goes is in
    took_cursors c.self.inside.schema c.self.inside.count (query_states_at c.self.inside.count c.self.inside.query_states.items (clocks_in c.self.inside.times)) c.self.inside.peaks.items c.args.event.now (query_states_at (c.self.inside.count + 1) new (clocks_in c.note.new.self)) t c.args.self.now c.self.view_is

pub returns-in-Ok-clause-same : goal.returns-in-Ok-clause-same
returns-in-Ok-clause-same g c =
    let long : length c.see.new.query_states ≡ c.self.inside.query_states.len = (let e = c.as_mut_slice-query_states.ensures.len in let f = c.see.auto.query_states in omega arith) in
    let new = (with_items c.self.inside.query_states c.see.new.query_states).items in
    let is = with_items_is c.self.inside.query_states c.see.new.query_states long in
    let of = of_inside c.self.inside.schema c.self.inside.count (query_states_at c.self.inside.count c.self.inside.query_states.items (clocks_in c.self.inside.times)) c.self.inside.peaks.items c.args.self.now c.args.event.now c.self.view_is c.requires.of_schema in
    let goes = go_on c.self.inside.schema (queries_of c.self.inside.query_states.items) c.self.inside.times c.self.invariant.3 c.args.event.now of c.self.inside.count c.note.new.self c.note.ensures.moved c.note.ensures.same in
    let has_seen : HasSeen c.self.inside.count c.args.event.now c.as_mut_slice-query_states.result.now c.see.new.query_states = record { grown = c.in-Ok.ensures.grown; idle = c.in-Ok.ensures.idle; quiet = c.in-Ok.ensures.quiet; stands = c.in-Ok.ensures.stands } in
    let t = took c.self.inside.schema c.self.inside.count (clocks_in c.self.inside.times) (clocks_in c.note.new.self) c.self.inside.query_states.items c.as_mut_slice-query_states.result.now c.self.inside.peaks.items c.args.self.now c.args.event.now c.see.new.query_states new c.self.view_is c.self.invariant.0 c.requires.in_time c.as_mut_slice-query_states.ensures.value has_seen goes is in
    took_same c.self.inside.schema c.self.inside.count (query_states_at c.self.inside.count c.self.inside.query_states.items (clocks_in c.self.inside.times)) c.self.inside.peaks.items c.args.event.now (query_states_at (c.self.inside.count + 1) new (clocks_in c.note.new.self)) t c.args.self.now c.self.view_is

pub returns-in-Ok-clause-growth : goal.returns-in-Ok-clause-growth
returns-in-Ok-clause-growth g c =
    let long : length c.see.new.query_states ≡ c.self.inside.query_states.len = (let e = c.as_mut_slice-query_states.ensures.len in let f = c.see.auto.query_states in omega arith) in
    let new = (with_items c.self.inside.query_states c.see.new.query_states).items in
    let is = with_items_is c.self.inside.query_states c.see.new.query_states long in
    let of = of_inside c.self.inside.schema c.self.inside.count (query_states_at c.self.inside.count c.self.inside.query_states.items (clocks_in c.self.inside.times)) c.self.inside.peaks.items c.args.self.now c.args.event.now c.self.view_is c.requires.of_schema in
    let goes = go_on c.self.inside.schema (queries_of c.self.inside.query_states.items) c.self.inside.times c.self.invariant.3 c.args.event.now of c.self.inside.count c.note.new.self c.note.ensures.moved c.note.ensures.same in
    let has_seen : HasSeen c.self.inside.count c.args.event.now c.as_mut_slice-query_states.result.now c.see.new.query_states = record { grown = c.in-Ok.ensures.grown; idle = c.in-Ok.ensures.idle; quiet = c.in-Ok.ensures.quiet; stands = c.in-Ok.ensures.stands } in
    let t = took c.self.inside.schema c.self.inside.count (clocks_in c.self.inside.times) (clocks_in c.note.new.self) c.self.inside.query_states.items c.as_mut_slice-query_states.result.now c.self.inside.peaks.items c.args.self.now c.args.event.now c.see.new.query_states new c.self.view_is c.self.invariant.0 c.requires.in_time c.as_mut_slice-query_states.ensures.value has_seen goes is in
    took_growth c.self.inside.schema c.self.inside.count (query_states_at c.self.inside.count c.self.inside.query_states.items (clocks_in c.self.inside.times)) c.self.inside.peaks.items c.args.event.now (query_states_at (c.self.inside.count + 1) new (clocks_in c.note.new.self)) t c.args.self.now c.self.view_is

pub returns-in-Ok-clause-no_growth : goal.returns-in-Ok-clause-no_growth
returns-in-Ok-clause-no_growth g c =
    let long : length c.see.new.query_states ≡ c.self.inside.query_states.len = (let e = c.as_mut_slice-query_states.ensures.len in let f = c.see.auto.query_states in omega arith) in
    let new = (with_items c.self.inside.query_states c.see.new.query_states).items in
    let is = with_items_is c.self.inside.query_states c.see.new.query_states long in
    let of = of_inside c.self.inside.schema c.self.inside.count (query_states_at c.self.inside.count c.self.inside.query_states.items (clocks_in c.self.inside.times)) c.self.inside.peaks.items c.args.self.now c.args.event.now c.self.view_is c.requires.of_schema in
    let goes = go_on c.self.inside.schema (queries_of c.self.inside.query_states.items) c.self.inside.times c.self.invariant.3 c.args.event.now of c.self.inside.count c.note.new.self c.note.ensures.moved c.note.ensures.same in
    let has_seen : HasSeen c.self.inside.count c.args.event.now c.as_mut_slice-query_states.result.now c.see.new.query_states = record { grown = c.in-Ok.ensures.grown; idle = c.in-Ok.ensures.idle; quiet = c.in-Ok.ensures.quiet; stands = c.in-Ok.ensures.stands } in
    let t = took c.self.inside.schema c.self.inside.count (clocks_in c.self.inside.times) (clocks_in c.note.new.self) c.self.inside.query_states.items c.as_mut_slice-query_states.result.now c.self.inside.peaks.items c.args.self.now c.args.event.now c.see.new.query_states new c.self.view_is c.self.invariant.0 c.requires.in_time c.as_mut_slice-query_states.ensures.value has_seen goes is in
    took_unread c.self.inside.schema c.self.inside.count (query_states_at c.self.inside.count c.self.inside.query_states.items (clocks_in c.self.inside.times)) c.self.inside.peaks.items c.args.event.now (query_states_at (c.self.inside.count + 1) new (clocks_in c.note.new.self)) t c.args.self.now c.self.view_is

pub returns-in-Ok-clause-peak : goal.returns-in-Ok-clause-peak
returns-in-Ok-clause-peak g c =
    let long : length c.see.new.query_states ≡ c.self.inside.query_states.len = (let e = c.as_mut_slice-query_states.ensures.len in let f = c.see.auto.query_states in omega arith) in
    let new = (with_items c.self.inside.query_states c.see.new.query_states).items in
    let is = with_items_is c.self.inside.query_states c.see.new.query_states long in
    let of = of_inside c.self.inside.schema c.self.inside.count (query_states_at c.self.inside.count c.self.inside.query_states.items (clocks_in c.self.inside.times)) c.self.inside.peaks.items c.args.self.now c.args.event.now c.self.view_is c.requires.of_schema in
    let goes = go_on c.self.inside.schema (queries_of c.self.inside.query_states.items) c.self.inside.times c.self.invariant.3 c.args.event.now of c.self.inside.count c.note.new.self c.note.ensures.moved c.note.ensures.same in
    let has_seen : HasSeen c.self.inside.count c.args.event.now c.as_mut_slice-query_states.result.now c.see.new.query_states = record { grown = c.in-Ok.ensures.grown; idle = c.in-Ok.ensures.idle; quiet = c.in-Ok.ensures.quiet; stands = c.in-Ok.ensures.stands } in
    let t = took c.self.inside.schema c.self.inside.count (clocks_in c.self.inside.times) (clocks_in c.note.new.self) c.self.inside.query_states.items c.as_mut_slice-query_states.result.now c.self.inside.peaks.items c.args.self.now c.args.event.now c.see.new.query_states new c.self.view_is c.self.invariant.0 c.requires.in_time c.as_mut_slice-query_states.ensures.value has_seen goes is in
    took_peak c.self.inside.schema c.self.inside.count (query_states_at c.self.inside.count c.self.inside.query_states.items (clocks_in c.self.inside.times)) c.self.inside.peaks.items c.args.event.now (query_states_at (c.self.inside.count + 1) new (clocks_in c.note.new.self)) t c.args.self.now c.self.view_is

pub returns-in-Ok-clause-added : goal.returns-in-Ok-clause-added
returns-in-Ok-clause-added g c =
    let long : length c.see.new.query_states ≡ c.self.inside.query_states.len = (let e = c.as_mut_slice-query_states.ensures.len in let f = c.see.auto.query_states in omega arith) in
    let new = (with_items c.self.inside.query_states c.see.new.query_states).items in
    let is = with_items_is c.self.inside.query_states c.see.new.query_states long in
    let of = of_inside c.self.inside.schema c.self.inside.count (query_states_at c.self.inside.count c.self.inside.query_states.items (clocks_in c.self.inside.times)) c.self.inside.peaks.items c.args.self.now c.args.event.now c.self.view_is c.requires.of_schema in
    let goes = go_on c.self.inside.schema (queries_of c.self.inside.query_states.items) c.self.inside.times c.self.invariant.3 c.args.event.now of c.self.inside.count c.note.new.self c.note.ensures.moved c.note.ensures.same in
    let has_seen : HasSeen c.self.inside.count c.args.event.now c.as_mut_slice-query_states.result.now c.see.new.query_states = record { grown = c.in-Ok.ensures.grown; idle = c.in-Ok.ensures.idle; quiet = c.in-Ok.ensures.quiet; stands = c.in-Ok.ensures.stands } in
    let t = took c.self.inside.schema c.self.inside.count (clocks_in c.self.inside.times) (clocks_in c.note.new.self) c.self.inside.query_states.items c.as_mut_slice-query_states.result.now c.self.inside.peaks.items c.args.self.now c.args.event.now c.see.new.query_states new c.self.view_is c.self.invariant.0 c.requires.in_time c.as_mut_slice-query_states.ensures.value has_seen goes is in
    took_added c.self.inside.schema c.self.inside.count (query_states_at c.self.inside.count c.self.inside.query_states.items (clocks_in c.self.inside.times)) c.self.inside.peaks.items c.args.event.now (query_states_at (c.self.inside.count + 1) new (clocks_in c.note.new.self)) t c.args.self.now c.self.view_is

pub returns-in-Ok-clause-keys : goal.returns-in-Ok-clause-keys
returns-in-Ok-clause-keys g c =
    let long : length c.see.new.query_states ≡ c.self.inside.query_states.len = (let e = c.as_mut_slice-query_states.ensures.len in let f = c.see.auto.query_states in omega arith) in
    let new = (with_items c.self.inside.query_states c.see.new.query_states).items in
    let is = with_items_is c.self.inside.query_states c.see.new.query_states long in
    let of = of_inside c.self.inside.schema c.self.inside.count (query_states_at c.self.inside.count c.self.inside.query_states.items (clocks_in c.self.inside.times)) c.self.inside.peaks.items c.args.self.now c.args.event.now c.self.view_is c.requires.of_schema in
    let goes = go_on c.self.inside.schema (queries_of c.self.inside.query_states.items) c.self.inside.times c.self.invariant.3 c.args.event.now of c.self.inside.count c.note.new.self c.note.ensures.moved c.note.ensures.same in
    let has_seen : HasSeen c.self.inside.count c.args.event.now c.as_mut_slice-query_states.result.now c.see.new.query_states = record { grown = c.in-Ok.ensures.grown; idle = c.in-Ok.ensures.idle; quiet = c.in-Ok.ensures.quiet; stands = c.in-Ok.ensures.stands } in
    let t = took c.self.inside.schema c.self.inside.count (clocks_in c.self.inside.times) (clocks_in c.note.new.self) c.self.inside.query_states.items c.as_mut_slice-query_states.result.now c.self.inside.peaks.items c.args.self.now c.args.event.now c.see.new.query_states new c.self.view_is c.self.invariant.0 c.requires.in_time c.as_mut_slice-query_states.ensures.value has_seen goes is in
    took_keys c.self.inside.schema c.self.inside.count (query_states_at c.self.inside.count c.self.inside.query_states.items (clocks_in c.self.inside.times)) c.self.inside.peaks.items c.args.event.now (query_states_at (c.self.inside.count + 1) new (clocks_in c.note.new.self)) t c.args.self.now c.self.view_is

pub returns-in-Ok-clause-steps : goal.returns-in-Ok-clause-steps
returns-in-Ok-clause-steps g c =
    let long : length c.see.new.query_states ≡ c.self.inside.query_states.len = (let e = c.as_mut_slice-query_states.ensures.len in let f = c.see.auto.query_states in omega arith) in
    let new = (with_items c.self.inside.query_states c.see.new.query_states).items in
    let is = with_items_is c.self.inside.query_states c.see.new.query_states long in
    steps_within c.self.inside.schema (c.self.inside.count + 1) (clocks_in c.note.new.self) c.see.new.query_states new c.self.inside.peaks.items c.args.steps.now c.see.new.steps is c.in-Ok.ensures.steps

pub invariant_of-self-in-Err : goal.invariant_of-self-in-Err
invariant_of-self-in-Err g c =
    let long : length c.see.new.query_states ≡ c.self.inside.query_states.len = (let e = c.as_mut_slice-query_states.ensures.len in let f = c.see.auto.query_states in omega arith) in
    let new = (with_items c.self.inside.query_states c.see.new.query_states).items in
    let is = with_items_is c.self.inside.query_states c.see.new.query_states long in
    let old = c.self.inside.query_states.items in
    let same : map (phase_at c.self.inside.count) new ≡ map (phase_at c.self.inside.count) old = ap (map (phase_at c.self.inside.count)) is ∙ (c.in-Err.ensures.unchanged ∙ ap (map (phase_at c.self.inside.count)) c.as_mut_slice-query_states.ensures.value) in
    let queries : queries_of new ≡ queries_of old = sym (seen_queries c.self.inside.count new) ∙ (ap (λ (ps : List Phase). queries_of ps) same ∙ seen_queries c.self.inside.count old) in (
      kept_back c.self.inside.schema c.self.inside.count (clocks_in c.self.inside.times) c.self.inside.query_states.items c.as_mut_slice-query_states.result.now c.see.new.query_states new c.self.inside.peaks.items c.self.invariant.0 c.as_mut_slice-query_states.ensures.value is c.in-Err.ensures.unchanged,
      noted_same (queries_of old) (queries_of new) (map (phase_at c.self.inside.count) old) (map (phase_at c.self.inside.count) new) c.self.inside.told false c.self.inside.touched.items c.see.new.touched.items c.self.inside.all.items queries c.self.invariant.1
          (λ told. absurd (false≢true told)),
      watching_same c.self.inside.schema (queries_of old) (queries_of new) c.self.inside.count c.self.inside.count c.self.inside.query_states.items new c.self.inside.dispatch.leaf_index c.mark-some_active_queries.new.self.leaf_index c.self.inside.dispatch.activity c.see.new.activity c.self.inside.dispatch.marked c.self.inside.dispatch.read c.mark-some_active_queries.new.self.marked c.mark-some_active_queries.new.self.read c.self.inside.dispatch.leaves.items c.mark-some_active_queries.new.self.leaves.items queries
          c.mark-some_active_queries.ensures.same.0 (c.see.ensures.sets.0 ∙ ap (λ (b : Activity). length b.active_queries) c.mark-some_active_queries.ensures.same.1, c.see.ensures.sets.1 ∙ ap (λ (b : Activity). length b.open_queries) c.mark-some_active_queries.ensures.same.1) c.mark-some_active_queries.ensures.sets c.mark-some_active_queries.ensures.reads c.mark-some_active_queries.ensures.rooms (subst (λ (ps : List Phase). AreLeft phase_at c.self.inside.count c.see.new.activity ps) (sym is) c.in-Err.ensures.still_left) c.self.invariant.2,
      times_same c.self.inside.schema (queries_of old) (queries_of new) c.self.inside.times queries c.self.invariant.3,
    )

pub returns-in-Err-clause-unchanged : goal.returns-in-Err-clause-unchanged
returns-in-Err-clause-unchanged g c =
    let long : length c.see.new.query_states ≡ c.self.inside.query_states.len = (let e = c.as_mut_slice-query_states.ensures.len in let f = c.see.auto.query_states in omega arith) in
    let new = (with_items c.self.inside.query_states c.see.new.query_states).items in
    let is = with_items_is c.self.inside.query_states c.see.new.query_states long in
    state_back c.self.inside.schema c.self.inside.count (clocks_in c.self.inside.times) c.self.inside.query_states.items c.as_mut_slice-query_states.result.now c.see.new.query_states new c.self.inside.peaks.items c.args.self.now c.self.view_is c.as_mut_slice-query_states.ensures.value is c.in-Err.ensures.unchanged

pub returns-in-Err-clause-wanting_steps : goal.returns-in-Err-clause-wanting_steps
returns-in-Err-clause-wanting_steps g c = steps_wanted c.self.inside.schema c.self.inside.count (clocks_in c.self.inside.times) c.self.inside.query_states.items c.as_mut_slice-query_states.result.now c.self.inside.peaks.items c.args.self.now c.args.event.now c.args.steps.now c.see.new.steps c.self.view_is c.self.invariant.0 c.requires.in_time c.as_mut_slice-query_states.ensures.value c.see.ensures.within

pub note-requires : goal.note-requires
note-requires g c =
    let of = of_inside c.self.inside.schema c.self.inside.count (query_states_at c.self.inside.count c.self.inside.query_states.items (clocks_in c.self.inside.times)) c.self.inside.peaks.items c.args.self.now c.args.event.now c.self.view_is c.requires.of_schema in
    record { inside = can_note c.self.inside.schema (queries_of c.self.inside.query_states.items) c.self.inside.times c.self.invariant.3 c.args.event.now of c.self.inside.count }
