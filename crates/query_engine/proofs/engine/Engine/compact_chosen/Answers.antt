use Rattle.std.proofs.Common.{◌≡◌, ◌∙◌, List, Vec, Global, Bool, map, length, false, arith, refl, subst, sym, ap}
use Rattle.std.specs.Vec.{with_items}
use Rattle.std.proofs.lemmas.List.{with_items_is}
use Rattle.std.proofs.lemmas.Bool.{false≢true}
use Rattle.all_or_none.specs.Phases.{Phase}
use Rattle.all_or_none.specs.Dormancy.{phase_at}
use Rattle.query_engine.specs.Times.{clocks_in, with_clocks, query_states_at}
use Rattle.query_engine.specs.Compacting.{cost_of, HaveRoom, AreTrimmed, AreOnce, OthersStay, AreCarried}
use Rattle.query_engine.proofs.Noting.{queries_of, times_long, times_same}
use Rattle.query_engine.proofs.Keeping.{keeping, query_states_queries, woken_at, woken_length, woken_queries, woken_state}
use Rattle.query_engine.proofs.Settled.{compaction, zip_queries, compacted_are, found_upto, can_compact, have_room, can_hold, flags_long, settled_running, settled_stands, settled_same, settled_count, settled_found, settled_fewer, settled_peak, settled_cursors, settled_left, settled_others, settled_once, settled_steps}
use Rattle.query_engine.proofs.Added.{settled_dense}
use Rattle.query_engine.proofs.FewNodes.{compaction_is_bounded}
use Rattle.query_engine.proofs.Named.{noted_same}
use Rattle.query_engine.proofs.Dispatched.{watching_same, query_states_within, left_looked, compacted_known}
use Rattle.query_engine.proofs.engine.Engine.compact_chosen.Goals as goal

pub most_nodes-most-requires-clause-flags : goal.most_nodes-most-requires-clause-flags
most_nodes-most-requires-clause-flags g c = flags_long c.self.inside.schema c.self.inside.count (clocks_in c.self.inside.times) c.self.inside.query_states.items c.as_slice.result.now c.self.inside.peaks.items c.args.self.now c.args.chosen.now c.self.view_is c.as_slice.ensures.value c.requires.flags

pub compact_query_states-requires-clause-flags : goal.compact_query_states-requires-clause-flags
compact_query_states-requires-clause-flags g c = flags_long c.self.inside.schema c.self.inside.count (clocks_in c.self.inside.times) c.self.inside.query_states.items c.as_mut_slice-query_states.result.now c.self.inside.peaks.items c.args.self.now c.args.chosen.now c.self.view_is c.as_mut_slice-query_states.ensures.value c.requires.flags

pub compact_query_states-requires-clause-query_states : goal.compact_query_states-requires-clause-query_states
compact_query_states-requires-clause-query_states g c = can_compact c.self.inside.schema c.self.inside.count (clocks_in c.self.inside.times) c.self.inside.query_states.items c.as_mut_slice-query_states.result.now c.self.inside.peaks.items c.self.invariant.0 c.as_mut_slice-query_states.ensures.value

pub compact_query_states-requires-clause-room : goal.compact_query_states-requires-clause-room
compact_query_states-requires-clause-room g c =
    let most = subst (HaveRoom c.args.chosen.now c.most_nodes-most.result) c.as_slice.ensures.value c.most_nodes-most.ensures in
    have_room c.args.chosen.now c.in_ok-room.room c.self.inside.count c.self.inside.query_states.items c.as_mut_slice-query_states.result.now c.as_mut_slice-query_states.ensures.value (λ j p less at flag. (let le = most j p less at flag in let is = c.in_ok-room.ensures in omega arith))

pub compact_query_states-requires-clause-times : goal.compact_query_states-requires-clause-times
compact_query_states-requires-clause-times g c = c.self.invariant.3.groups_are.inside

pub compact_query_states-requires-clause-clocks : goal.compact_query_states-requires-clause-clocks
compact_query_states-requires-clause-clocks g c = times_long c.self.inside.schema c.self.inside.query_states.items c.self.inside.times c.self.invariant.3 ∙ ap (λ (ps : List Phase). length ps) (sym c.as_mut_slice-query_states.ensures.value)

pub compact_query_states-requires-clause-held : goal.compact_query_states-requires-clause-held
compact_query_states-requires-clause-held g c =
    can_hold c.self.inside.schema c.self.inside.count (woken_at c.self.inside.count c.self.inside.query_states.items (clocks_in c.self.inside.times)) (woken_at c.self.inside.count c.as_mut_slice-query_states.result.now (clocks_in c.self.inside.times)) c.self.inside.peaks.items c.args.self.now c.args.held.now (woken_state c.self.inside.schema c.self.inside.count (clocks_in c.self.inside.times) c.self.inside.query_states.items c.self.inside.peaks.items ∙ c.self.view_is) (ap (λ (ps : List Phase). woken_at c.self.inside.count ps (clocks_in c.self.inside.times)) c.as_mut_slice-query_states.ensures.value) c.requires.fits

pub look-requires-clause-active : goal.look-requires-clause-active
look-requires-clause-active g c = (query_states_within c.self.inside.schema (queries_of c.self.inside.query_states.items) c.self.inside.count (length c.compact_query_states.new.query_states) c.self.inside.query_states.items c.self.inside.dispatch.leaf_index c.self.inside.dispatch.activity c.self.inside.dispatch.marked c.self.inside.dispatch.read c.self.inside.dispatch.leaves.items refl (let same = ap (λ (ps : List Phase). length ps) c.as_mut_slice-query_states.ensures.value in let long = c.compact_query_states.auto.query_states in omega arith) c.self.invariant.2).0

pub look-requires-clause-open : goal.look-requires-clause-open
look-requires-clause-open g c = (query_states_within c.self.inside.schema (queries_of c.self.inside.query_states.items) c.self.inside.count (length c.compact_query_states.new.query_states) c.self.inside.query_states.items c.self.inside.dispatch.leaf_index c.self.inside.dispatch.activity c.self.inside.dispatch.marked c.self.inside.dispatch.read c.self.inside.dispatch.leaves.items refl (let same = ap (λ (ps : List Phase). length ps) c.as_mut_slice-query_states.ensures.value in let long = c.compact_query_states.auto.query_states in omega arith) c.self.invariant.2).1

pub invariant_of-self : goal.invariant_of-self
invariant_of-self g c =
    let long : length c.compact_query_states.new.query_states ≡ c.self.inside.query_states.len = (let e = c.as_mut_slice-query_states.ensures.len in let f = c.compact_query_states.auto.query_states in omega arith) in
    let peaks_long : length c.raise.new.peaks ≡ c.self.inside.peaks.len = (let e = c.as_mut_slice-peaks.ensures.len in let f = c.raise.auto.peaks in omega arith) in
    let raw = (with_items c.self.inside.query_states c.compact_query_states.new.query_states).items in
    let raw_is = with_items_is c.self.inside.query_states c.compact_query_states.new.query_states long in
    let qs = (with_items c.self.inside.peaks c.raise.new.peaks).items in
    let k = compaction c.self.inside.schema c.self.inside.count (clocks_in c.self.inside.times) c.self.inside.query_states.items c.as_mut_slice-query_states.result.now c.compact_query_states.new.query_states raw c.as_slice-2.result.now c.self.inside.peaks.items c.as_mut_slice-peaks.result.now c.raise.new.peaks qs c.args.self.now c.self.invariant.0 c.self.view_is c.as_mut_slice-query_states.ensures.value c.compact_query_states.ensures.query_states raw_is c.as_slice-2.ensures.value c.as_mut_slice-peaks.ensures.value c.raise.ensures (with_items_is c.self.inside.peaks c.raise.new.peaks peaks_long) in
    let old = c.self.inside.query_states.items in
    let mid = woken_at c.self.inside.count old (clocks_in c.self.inside.times) in
    let after = query_states_at c.self.inside.count raw (clocks_in c.self.inside.times) in
    let queries : queries_of raw ≡ queries_of old = sym (query_states_queries c.self.inside.count raw (clocks_in c.self.inside.times)) ∙ (zip_queries mid after k.zip ∙ woken_queries c.self.inside.count old (clocks_in c.self.inside.times)) in (
      keeping c.self.inside.schema c.self.inside.count (clocks_in c.self.inside.times) raw qs (settled_running c.self.inside.schema c.self.inside.count mid after c.self.inside.peaks.items qs c.args.held.now c.compact_query_states.new.held k.running k.zip k.peaks c.args.self.now k.is k.quiet),
      noted_same (queries_of old) (queries_of raw) (map (phase_at c.self.inside.count) old) (map (phase_at c.self.inside.count) raw) c.self.inside.told false c.self.inside.touched.items c.self.inside.touched.items c.self.inside.all.items queries c.self.invariant.1
          (λ told. absurd (false≢true told)),
      watching_same c.self.inside.schema (queries_of old) (queries_of raw) c.self.inside.count c.self.inside.count c.self.inside.query_states.items raw c.self.inside.dispatch.leaf_index c.look.new.self.leaf_index c.self.inside.dispatch.activity c.look.new.self.activity c.self.inside.dispatch.marked c.self.inside.dispatch.read c.look.new.self.marked c.look.new.self.read c.self.inside.dispatch.leaves.items c.look.new.self.leaves.items queries
          c.look.ensures.same.0 c.look.ensures.room (ap (λ (b : List Bool). length b) c.look.ensures.same.1) (ap (λ (b : List Bool). length b) c.look.ensures.same.2) (ap (λ (v : Vec (List Bool) Global). map (λ (set : List Bool). length set) v.items) c.look.ensures.same.3)
          (left_looked c.self.inside.count c.compact_query_states.new.query_states raw c.look.new.self.activity raw_is (compacted_known c.self.inside.count c.compact_query_states.new.query_states (found_upto c.self.inside.count (clocks_in c.self.inside.times) c.as_mut_slice-query_states.result.now c.compact_query_states.new.query_states c.compact_query_states.ensures.query_states)) c.look.ensures.looked) c.self.invariant.2,
      times_same c.self.inside.schema (queries_of old) (queries_of raw) c.self.inside.times queries c.self.invariant.3,
    )

pub returns-clause-stands : goal.returns-clause-stands
returns-clause-stands g c =
    let long : length c.compact_query_states.new.query_states ≡ c.self.inside.query_states.len = (let e = c.as_mut_slice-query_states.ensures.len in let f = c.compact_query_states.auto.query_states in omega arith) in
    let peaks_long : length c.raise.new.peaks ≡ c.self.inside.peaks.len = (let e = c.as_mut_slice-peaks.ensures.len in let f = c.raise.auto.peaks in omega arith) in
    let raw = (with_items c.self.inside.query_states c.compact_query_states.new.query_states).items in
    let raw_is = with_items_is c.self.inside.query_states c.compact_query_states.new.query_states long in
    let qs = (with_items c.self.inside.peaks c.raise.new.peaks).items in
    let k = compaction c.self.inside.schema c.self.inside.count (clocks_in c.self.inside.times) c.self.inside.query_states.items c.as_mut_slice-query_states.result.now c.compact_query_states.new.query_states raw c.as_slice-2.result.now c.self.inside.peaks.items c.as_mut_slice-peaks.result.now c.raise.new.peaks qs c.args.self.now c.self.invariant.0 c.self.view_is c.as_mut_slice-query_states.ensures.value c.compact_query_states.ensures.query_states raw_is c.as_slice-2.ensures.value c.as_mut_slice-peaks.ensures.value c.raise.ensures (with_items_is c.self.inside.peaks c.raise.new.peaks peaks_long) in
    settled_stands c.self.inside.schema c.self.inside.count (woken_at c.self.inside.count c.self.inside.query_states.items (clocks_in c.self.inside.times)) (query_states_at c.self.inside.count raw (clocks_in c.self.inside.times)) c.self.inside.peaks.items qs c.args.held.now c.compact_query_states.new.held k.running k.zip k.peaks c.args.self.now k.is

pub returns-clause-same : goal.returns-clause-same
returns-clause-same g c =
    let long : length c.compact_query_states.new.query_states ≡ c.self.inside.query_states.len = (let e = c.as_mut_slice-query_states.ensures.len in let f = c.compact_query_states.auto.query_states in omega arith) in
    let peaks_long : length c.raise.new.peaks ≡ c.self.inside.peaks.len = (let e = c.as_mut_slice-peaks.ensures.len in let f = c.raise.auto.peaks in omega arith) in
    let raw = (with_items c.self.inside.query_states c.compact_query_states.new.query_states).items in
    let raw_is = with_items_is c.self.inside.query_states c.compact_query_states.new.query_states long in
    let qs = (with_items c.self.inside.peaks c.raise.new.peaks).items in
    let k = compaction c.self.inside.schema c.self.inside.count (clocks_in c.self.inside.times) c.self.inside.query_states.items c.as_mut_slice-query_states.result.now c.compact_query_states.new.query_states raw c.as_slice-2.result.now c.self.inside.peaks.items c.as_mut_slice-peaks.result.now c.raise.new.peaks qs c.args.self.now c.self.invariant.0 c.self.view_is c.as_mut_slice-query_states.ensures.value c.compact_query_states.ensures.query_states raw_is c.as_slice-2.ensures.value c.as_mut_slice-peaks.ensures.value c.raise.ensures (with_items_is c.self.inside.peaks c.raise.new.peaks peaks_long) in
    settled_same c.self.inside.schema c.self.inside.count (woken_at c.self.inside.count c.self.inside.query_states.items (clocks_in c.self.inside.times)) (query_states_at c.self.inside.count raw (clocks_in c.self.inside.times)) c.self.inside.peaks.items qs c.args.held.now c.compact_query_states.new.held k.running k.zip k.peaks c.args.self.now k.is

pub returns-clause-count : goal.returns-clause-count
returns-clause-count g c =
    let long : length c.compact_query_states.new.query_states ≡ c.self.inside.query_states.len = (let e = c.as_mut_slice-query_states.ensures.len in let f = c.compact_query_states.auto.query_states in omega arith) in
    let peaks_long : length c.raise.new.peaks ≡ c.self.inside.peaks.len = (let e = c.as_mut_slice-peaks.ensures.len in let f = c.raise.auto.peaks in omega arith) in
    let raw = (with_items c.self.inside.query_states c.compact_query_states.new.query_states).items in
    let raw_is = with_items_is c.self.inside.query_states c.compact_query_states.new.query_states long in
    let qs = (with_items c.self.inside.peaks c.raise.new.peaks).items in
    let k = compaction c.self.inside.schema c.self.inside.count (clocks_in c.self.inside.times) c.self.inside.query_states.items c.as_mut_slice-query_states.result.now c.compact_query_states.new.query_states raw c.as_slice-2.result.now c.self.inside.peaks.items c.as_mut_slice-peaks.result.now c.raise.new.peaks qs c.args.self.now c.self.invariant.0 c.self.view_is c.as_mut_slice-query_states.ensures.value c.compact_query_states.ensures.query_states raw_is c.as_slice-2.ensures.value c.as_mut_slice-peaks.ensures.value c.raise.ensures (with_items_is c.self.inside.peaks c.raise.new.peaks peaks_long) in
    settled_count c.self.inside.schema c.self.inside.count (woken_at c.self.inside.count c.self.inside.query_states.items (clocks_in c.self.inside.times)) (query_states_at c.self.inside.count raw (clocks_in c.self.inside.times)) c.self.inside.peaks.items qs c.args.held.now c.compact_query_states.new.held k.running k.zip k.peaks c.args.self.now k.is

pub returns-clause-found : goal.returns-clause-found
returns-clause-found g c =
    let long : length c.compact_query_states.new.query_states ≡ c.self.inside.query_states.len = (let e = c.as_mut_slice-query_states.ensures.len in let f = c.compact_query_states.auto.query_states in omega arith) in
    let peaks_long : length c.raise.new.peaks ≡ c.self.inside.peaks.len = (let e = c.as_mut_slice-peaks.ensures.len in let f = c.raise.auto.peaks in omega arith) in
    let raw = (with_items c.self.inside.query_states c.compact_query_states.new.query_states).items in
    let raw_is = with_items_is c.self.inside.query_states c.compact_query_states.new.query_states long in
    let qs = (with_items c.self.inside.peaks c.raise.new.peaks).items in
    let k = compaction c.self.inside.schema c.self.inside.count (clocks_in c.self.inside.times) c.self.inside.query_states.items c.as_mut_slice-query_states.result.now c.compact_query_states.new.query_states raw c.as_slice-2.result.now c.self.inside.peaks.items c.as_mut_slice-peaks.result.now c.raise.new.peaks qs c.args.self.now c.self.invariant.0 c.self.view_is c.as_mut_slice-query_states.ensures.value c.compact_query_states.ensures.query_states raw_is c.as_slice-2.ensures.value c.as_mut_slice-peaks.ensures.value c.raise.ensures (with_items_is c.self.inside.peaks c.raise.new.peaks peaks_long) in
    settled_found c.self.inside.schema c.self.inside.count (woken_at c.self.inside.count c.self.inside.query_states.items (clocks_in c.self.inside.times)) (query_states_at c.self.inside.count raw (clocks_in c.self.inside.times)) c.self.inside.peaks.items qs c.args.held.now c.compact_query_states.new.held k.running k.zip k.peaks c.args.self.now k.is

pub returns-clause-fewer : goal.returns-clause-fewer
returns-clause-fewer g c =
    let long : length c.compact_query_states.new.query_states ≡ c.self.inside.query_states.len = (let e = c.as_mut_slice-query_states.ensures.len in let f = c.compact_query_states.auto.query_states in omega arith) in
    let peaks_long : length c.raise.new.peaks ≡ c.self.inside.peaks.len = (let e = c.as_mut_slice-peaks.ensures.len in let f = c.raise.auto.peaks in omega arith) in
    let raw = (with_items c.self.inside.query_states c.compact_query_states.new.query_states).items in
    let raw_is = with_items_is c.self.inside.query_states c.compact_query_states.new.query_states long in
    let qs = (with_items c.self.inside.peaks c.raise.new.peaks).items in
    let k = compaction c.self.inside.schema c.self.inside.count (clocks_in c.self.inside.times) c.self.inside.query_states.items c.as_mut_slice-query_states.result.now c.compact_query_states.new.query_states raw c.as_slice-2.result.now c.self.inside.peaks.items c.as_mut_slice-peaks.result.now c.raise.new.peaks qs c.args.self.now c.self.invariant.0 c.self.view_is c.as_mut_slice-query_states.ensures.value c.compact_query_states.ensures.query_states raw_is c.as_slice-2.ensures.value c.as_mut_slice-peaks.ensures.value c.raise.ensures (with_items_is c.self.inside.peaks c.raise.new.peaks peaks_long) in
    settled_fewer c.self.inside.schema c.self.inside.count (woken_at c.self.inside.count c.self.inside.query_states.items (clocks_in c.self.inside.times)) (query_states_at c.self.inside.count raw (clocks_in c.self.inside.times)) c.self.inside.peaks.items qs c.args.held.now c.compact_query_states.new.held k.running k.zip k.peaks c.args.self.now k.is

pub returns-clause-peak : goal.returns-clause-peak
returns-clause-peak g c =
    let long : length c.compact_query_states.new.query_states ≡ c.self.inside.query_states.len = (let e = c.as_mut_slice-query_states.ensures.len in let f = c.compact_query_states.auto.query_states in omega arith) in
    let peaks_long : length c.raise.new.peaks ≡ c.self.inside.peaks.len = (let e = c.as_mut_slice-peaks.ensures.len in let f = c.raise.auto.peaks in omega arith) in
    let raw = (with_items c.self.inside.query_states c.compact_query_states.new.query_states).items in
    let raw_is = with_items_is c.self.inside.query_states c.compact_query_states.new.query_states long in
    let qs = (with_items c.self.inside.peaks c.raise.new.peaks).items in
    let k = compaction c.self.inside.schema c.self.inside.count (clocks_in c.self.inside.times) c.self.inside.query_states.items c.as_mut_slice-query_states.result.now c.compact_query_states.new.query_states raw c.as_slice-2.result.now c.self.inside.peaks.items c.as_mut_slice-peaks.result.now c.raise.new.peaks qs c.args.self.now c.self.invariant.0 c.self.view_is c.as_mut_slice-query_states.ensures.value c.compact_query_states.ensures.query_states raw_is c.as_slice-2.ensures.value c.as_mut_slice-peaks.ensures.value c.raise.ensures (with_items_is c.self.inside.peaks c.raise.new.peaks peaks_long) in
    settled_peak c.self.inside.schema c.self.inside.count (woken_at c.self.inside.count c.self.inside.query_states.items (clocks_in c.self.inside.times)) (query_states_at c.self.inside.count raw (clocks_in c.self.inside.times)) c.self.inside.peaks.items qs c.args.held.now c.compact_query_states.new.held k.running k.zip k.peaks c.args.self.now k.is

pub returns-clause-cursors : goal.returns-clause-cursors
returns-clause-cursors g c =
    let long : length c.compact_query_states.new.query_states ≡ c.self.inside.query_states.len = (let e = c.as_mut_slice-query_states.ensures.len in let f = c.compact_query_states.auto.query_states in omega arith) in
    let peaks_long : length c.raise.new.peaks ≡ c.self.inside.peaks.len = (let e = c.as_mut_slice-peaks.ensures.len in let f = c.raise.auto.peaks in omega arith) in
    let raw = (with_items c.self.inside.query_states c.compact_query_states.new.query_states).items in
    let raw_is = with_items_is c.self.inside.query_states c.compact_query_states.new.query_states long in
    let qs = (with_items c.self.inside.peaks c.raise.new.peaks).items in
    let k = compaction c.self.inside.schema c.self.inside.count (clocks_in c.self.inside.times) c.self.inside.query_states.items c.as_mut_slice-query_states.result.now c.compact_query_states.new.query_states raw c.as_slice-2.result.now c.self.inside.peaks.items c.as_mut_slice-peaks.result.now c.raise.new.peaks qs c.args.self.now c.self.invariant.0 c.self.view_is c.as_mut_slice-query_states.ensures.value c.compact_query_states.ensures.query_states raw_is c.as_slice-2.ensures.value c.as_mut_slice-peaks.ensures.value c.raise.ensures (with_items_is c.self.inside.peaks c.raise.new.peaks peaks_long) in
    let are = compacted_are c.self.inside.count (clocks_in c.self.inside.times) c.as_mut_slice-query_states.result.now c.compact_query_states.new.query_states raw c.compact_query_states.ensures.query_states raw_is in
    let old = woken_at c.self.inside.count c.self.inside.query_states.items (clocks_in c.self.inside.times) in
    let many : length c.as_mut_slice-query_states.result.now ≡ length old = ap length c.as_mut_slice-query_states.ensures.value ∙ sym (woken_length c.self.inside.count c.self.inside.query_states.items (clocks_in c.self.inside.times)) in
    let carried = subst (λ n. AreCarried n old (query_states_at c.self.inside.count raw (clocks_in c.self.inside.times)) c.args.held.now c.compact_query_states.new.held) many
    (subst (λ (ps : List Phase). AreCarried (length c.as_mut_slice-query_states.result.now) old ps c.args.held.now c.compact_query_states.new.held) are
    (subst (λ (ps : List Phase). AreCarried (length c.as_mut_slice-query_states.result.now) (woken_at c.self.inside.count ps (clocks_in c.self.inside.times)) (with_clocks c.compact_query_states.new.query_states (clocks_in c.self.inside.times)) c.args.held.now c.compact_query_states.new.held) c.as_mut_slice-query_states.ensures.value c.compact_query_states.ensures.held)) in
    let fits = can_hold c.self.inside.schema c.self.inside.count old old c.self.inside.peaks.items c.args.self.now c.args.held.now k.is refl c.requires.fits in
    settled_cursors c.self.inside.schema c.self.inside.count (woken_at c.self.inside.count c.self.inside.query_states.items (clocks_in c.self.inside.times)) (query_states_at c.self.inside.count raw (clocks_in c.self.inside.times)) c.self.inside.peaks.items qs c.args.held.now c.compact_query_states.new.held k.running k.zip k.peaks c.args.self.now k.is carried fits

pub returns-clause-dense : goal.returns-clause-dense
returns-clause-dense g c =
    let long : length c.compact_query_states.new.query_states ≡ c.self.inside.query_states.len = (let e = c.as_mut_slice-query_states.ensures.len in let f = c.compact_query_states.auto.query_states in omega arith) in
    let peaks_long : length c.raise.new.peaks ≡ c.self.inside.peaks.len = (let e = c.as_mut_slice-peaks.ensures.len in let f = c.raise.auto.peaks in omega arith) in
    let raw = (with_items c.self.inside.query_states c.compact_query_states.new.query_states).items in
    let raw_is = with_items_is c.self.inside.query_states c.compact_query_states.new.query_states long in
    let qs = (with_items c.self.inside.peaks c.raise.new.peaks).items in
    let k = compaction c.self.inside.schema c.self.inside.count (clocks_in c.self.inside.times) c.self.inside.query_states.items c.as_mut_slice-query_states.result.now c.compact_query_states.new.query_states raw c.as_slice-2.result.now c.self.inside.peaks.items c.as_mut_slice-peaks.result.now c.raise.new.peaks qs c.args.self.now c.self.invariant.0 c.self.view_is c.as_mut_slice-query_states.ensures.value c.compact_query_states.ensures.query_states raw_is c.as_slice-2.ensures.value c.as_mut_slice-peaks.ensures.value c.raise.ensures (with_items_is c.self.inside.peaks c.raise.new.peaks peaks_long) in
    settled_dense c.self.inside.schema c.self.inside.count (woken_at c.self.inside.count c.self.inside.query_states.items (clocks_in c.self.inside.times)) (query_states_at c.self.inside.count raw (clocks_in c.self.inside.times)) c.self.inside.peaks.items qs c.args.held.now c.compact_query_states.new.held k.running k.zip k.peaks c.args.self.now k.is

pub returns-clause-left : goal.returns-clause-left
returns-clause-left g c =
    let long : length c.compact_query_states.new.query_states ≡ c.self.inside.query_states.len = (let e = c.as_mut_slice-query_states.ensures.len in let f = c.compact_query_states.auto.query_states in omega arith) in
    let peaks_long : length c.raise.new.peaks ≡ c.self.inside.peaks.len = (let e = c.as_mut_slice-peaks.ensures.len in let f = c.raise.auto.peaks in omega arith) in
    let raw = (with_items c.self.inside.query_states c.compact_query_states.new.query_states).items in
    let raw_is = with_items_is c.self.inside.query_states c.compact_query_states.new.query_states long in
    let qs = (with_items c.self.inside.peaks c.raise.new.peaks).items in
    let k = compaction c.self.inside.schema c.self.inside.count (clocks_in c.self.inside.times) c.self.inside.query_states.items c.as_mut_slice-query_states.result.now c.compact_query_states.new.query_states raw c.as_slice-2.result.now c.self.inside.peaks.items c.as_mut_slice-peaks.result.now c.raise.new.peaks qs c.args.self.now c.self.invariant.0 c.self.view_is c.as_mut_slice-query_states.ensures.value c.compact_query_states.ensures.query_states raw_is c.as_slice-2.ensures.value c.as_mut_slice-peaks.ensures.value c.raise.ensures (with_items_is c.self.inside.peaks c.raise.new.peaks peaks_long) in
    let are = compacted_are c.self.inside.count (clocks_in c.self.inside.times) c.as_mut_slice-query_states.result.now c.compact_query_states.new.query_states raw c.compact_query_states.ensures.query_states raw_is in
    let old = woken_at c.self.inside.count c.self.inside.query_states.items (clocks_in c.self.inside.times) in
    let many : length c.as_mut_slice-query_states.result.now ≡ length old = ap length c.as_mut_slice-query_states.ensures.value ∙ sym (woken_length c.self.inside.count c.self.inside.query_states.items (clocks_in c.self.inside.times)) in
    let trimmed = subst (λ n. AreTrimmed c.args.chosen.now n c.compact_query_states.new.held (query_states_at c.self.inside.count raw (clocks_in c.self.inside.times))) many
    (subst (AreTrimmed c.args.chosen.now (length c.as_mut_slice-query_states.result.now) c.compact_query_states.new.held) are c.compact_query_states.ensures.left) in
    settled_left c.self.inside.schema c.self.inside.count (woken_at c.self.inside.count c.self.inside.query_states.items (clocks_in c.self.inside.times)) (query_states_at c.self.inside.count raw (clocks_in c.self.inside.times)) c.self.inside.peaks.items qs c.args.held.now c.compact_query_states.new.held k.running k.zip k.peaks c.args.self.now k.is c.args.chosen.now trimmed

pub returns-clause-others : goal.returns-clause-others
returns-clause-others g c =
    let long : length c.compact_query_states.new.query_states ≡ c.self.inside.query_states.len = (let e = c.as_mut_slice-query_states.ensures.len in let f = c.compact_query_states.auto.query_states in omega arith) in
    let peaks_long : length c.raise.new.peaks ≡ c.self.inside.peaks.len = (let e = c.as_mut_slice-peaks.ensures.len in let f = c.raise.auto.peaks in omega arith) in
    let raw = (with_items c.self.inside.query_states c.compact_query_states.new.query_states).items in
    let raw_is = with_items_is c.self.inside.query_states c.compact_query_states.new.query_states long in
    let qs = (with_items c.self.inside.peaks c.raise.new.peaks).items in
    let k = compaction c.self.inside.schema c.self.inside.count (clocks_in c.self.inside.times) c.self.inside.query_states.items c.as_mut_slice-query_states.result.now c.compact_query_states.new.query_states raw c.as_slice-2.result.now c.self.inside.peaks.items c.as_mut_slice-peaks.result.now c.raise.new.peaks qs c.args.self.now c.self.invariant.0 c.self.view_is c.as_mut_slice-query_states.ensures.value c.compact_query_states.ensures.query_states raw_is c.as_slice-2.ensures.value c.as_mut_slice-peaks.ensures.value c.raise.ensures (with_items_is c.self.inside.peaks c.raise.new.peaks peaks_long) in
    let are = compacted_are c.self.inside.count (clocks_in c.self.inside.times) c.as_mut_slice-query_states.result.now c.compact_query_states.new.query_states raw c.compact_query_states.ensures.query_states raw_is in
    let old = woken_at c.self.inside.count c.self.inside.query_states.items (clocks_in c.self.inside.times) in
    let many : length c.as_mut_slice-query_states.result.now ≡ length old = ap length c.as_mut_slice-query_states.ensures.value ∙ sym (woken_length c.self.inside.count c.self.inside.query_states.items (clocks_in c.self.inside.times)) in
    let others = subst (λ n. OthersStay c.args.chosen.now n old (query_states_at c.self.inside.count raw (clocks_in c.self.inside.times))) many
    (subst (OthersStay c.args.chosen.now (length c.as_mut_slice-query_states.result.now) old) are
    (subst (λ (ps : List Phase). OthersStay c.args.chosen.now (length c.as_mut_slice-query_states.result.now) (woken_at c.self.inside.count ps (clocks_in c.self.inside.times)) (with_clocks c.compact_query_states.new.query_states (clocks_in c.self.inside.times))) c.as_mut_slice-query_states.ensures.value c.compact_query_states.ensures.others)) in
    settled_others c.self.inside.schema c.self.inside.count (woken_at c.self.inside.count c.self.inside.query_states.items (clocks_in c.self.inside.times)) (query_states_at c.self.inside.count raw (clocks_in c.self.inside.times)) c.self.inside.peaks.items qs c.args.held.now c.compact_query_states.new.held k.running k.zip k.peaks c.args.self.now k.is c.args.chosen.now others

pub returns-clause-steps : goal.returns-clause-steps
returns-clause-steps g c =
    let long : length c.compact_query_states.new.query_states ≡ c.self.inside.query_states.len = (let e = c.as_mut_slice-query_states.ensures.len in let f = c.compact_query_states.auto.query_states in omega arith) in
    let peaks_long : length c.raise.new.peaks ≡ c.self.inside.peaks.len = (let e = c.as_mut_slice-peaks.ensures.len in let f = c.raise.auto.peaks in omega arith) in
    let raw = (with_items c.self.inside.query_states c.compact_query_states.new.query_states).items in
    let raw_is = with_items_is c.self.inside.query_states c.compact_query_states.new.query_states long in
    let qs = (with_items c.self.inside.peaks c.raise.new.peaks).items in
    let k = compaction c.self.inside.schema c.self.inside.count (clocks_in c.self.inside.times) c.self.inside.query_states.items c.as_mut_slice-query_states.result.now c.compact_query_states.new.query_states raw c.as_slice-2.result.now c.self.inside.peaks.items c.as_mut_slice-peaks.result.now c.raise.new.peaks qs c.args.self.now c.self.invariant.0 c.self.view_is c.as_mut_slice-query_states.ensures.value c.compact_query_states.ensures.query_states raw_is c.as_slice-2.ensures.value c.as_mut_slice-peaks.ensures.value c.raise.ensures (with_items_is c.self.inside.peaks c.raise.new.peaks peaks_long) in
    let same = ap (λ (ps : List Phase). cost_of c.args.chosen.now (woken_at c.self.inside.count ps (clocks_in c.self.inside.times))) c.as_mut_slice-query_states.ensures.value in
    let paid = c.compact_query_states.ensures.steps in
    settled_steps c.self.inside.schema c.self.inside.count (woken_at c.self.inside.count c.self.inside.query_states.items (clocks_in c.self.inside.times)) (query_states_at c.self.inside.count raw (clocks_in c.self.inside.times)) c.self.inside.peaks.items qs c.args.held.now c.compact_query_states.new.held k.running k.zip k.peaks c.args.self.now k.is c.args.chosen.now c.args.steps.now c.compact_query_states.new.steps (omega arith)

pub returns-clause-bounded : goal.returns-clause-bounded
returns-clause-bounded g c =
    let long : length c.compact_query_states.new.query_states ≡ c.self.inside.query_states.len = (let e = c.as_mut_slice-query_states.ensures.len in let f = c.compact_query_states.auto.query_states in omega arith) in
    let peaks_long : length c.raise.new.peaks ≡ c.self.inside.peaks.len = (let e = c.as_mut_slice-peaks.ensures.len in let f = c.raise.auto.peaks in omega arith) in
    let raw = (with_items c.self.inside.query_states c.compact_query_states.new.query_states).items in
    let raw_is = with_items_is c.self.inside.query_states c.compact_query_states.new.query_states long in
    let qs = (with_items c.self.inside.peaks c.raise.new.peaks).items in
    let k = compaction c.self.inside.schema c.self.inside.count (clocks_in c.self.inside.times) c.self.inside.query_states.items c.as_mut_slice-query_states.result.now c.compact_query_states.new.query_states raw c.as_slice-2.result.now c.self.inside.peaks.items c.as_mut_slice-peaks.result.now c.raise.new.peaks qs c.args.self.now c.self.invariant.0 c.self.view_is c.as_mut_slice-query_states.ensures.value c.compact_query_states.ensures.query_states raw_is c.as_slice-2.ensures.value c.as_mut_slice-peaks.ensures.value c.raise.ensures (with_items_is c.self.inside.peaks c.raise.new.peaks peaks_long) in
    let are = compacted_are c.self.inside.count (clocks_in c.self.inside.times) c.as_mut_slice-query_states.result.now c.compact_query_states.new.query_states raw c.compact_query_states.ensures.query_states raw_is in
    let old = woken_at c.self.inside.count c.self.inside.query_states.items (clocks_in c.self.inside.times) in
    let many : length c.as_mut_slice-query_states.result.now ≡ length old = ap length c.as_mut_slice-query_states.ensures.value ∙ sym (woken_length c.self.inside.count c.self.inside.query_states.items (clocks_in c.self.inside.times)) in
    let same = ap (λ (ps : List Phase). cost_of c.args.chosen.now (woken_at c.self.inside.count ps (clocks_in c.self.inside.times))) c.as_mut_slice-query_states.ensures.value in
    let paid = c.compact_query_states.ensures.steps in
    let within = settled_steps c.self.inside.schema c.self.inside.count (woken_at c.self.inside.count c.self.inside.query_states.items (clocks_in c.self.inside.times)) (query_states_at c.self.inside.count raw (clocks_in c.self.inside.times)) c.self.inside.peaks.items qs c.args.held.now c.compact_query_states.new.held k.running k.zip k.peaks c.args.self.now k.is c.args.chosen.now c.args.steps.now c.compact_query_states.new.steps (omega arith) in
    let once = subst (λ n. AreOnce c.args.chosen.now n old) many
    (subst (λ (ps : List Phase). AreOnce c.args.chosen.now (length c.as_mut_slice-query_states.result.now) (woken_at c.self.inside.count ps (clocks_in c.self.inside.times))) c.as_mut_slice-query_states.ensures.value c.compact_query_states.ensures.once) in
    let once_of = settled_once c.self.inside.schema c.self.inside.count (woken_at c.self.inside.count c.self.inside.query_states.items (clocks_in c.self.inside.times)) (query_states_at c.self.inside.count raw (clocks_in c.self.inside.times)) c.self.inside.peaks.items qs c.args.held.now c.compact_query_states.new.held k.running k.zip k.peaks c.args.self.now k.is c.args.chosen.now once in
    λ events most stands meet few. (let bound = compaction_is_bounded c.args.chosen.now c.args.self.now events most stands meet few once_of in omega arith)
