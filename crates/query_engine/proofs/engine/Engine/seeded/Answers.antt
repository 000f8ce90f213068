use Rattle.std.proofs.Common.{◌≡◌, ◌≤◌, ◌∙◌, List, [], Vec, Global, Bool, arith, map, length, refl, sym, ap, subst, All}
use Rattle.stream_schema.specs.Types.{Declared}
use Rattle.cel_terms.specs.Checked.{IsChecked}
use Rattle.all_or_none.specs.Phases.{Phase}
use Rattle.all_or_none.specs.Dormancy.{phase_at}
use Rattle.query_index.specs.Rows.{Table, AreExact, AreWaiting, IsLeafIndex}
use Rattle.query_engine.specs.Engine.{count_of}
use Rattle.query_engine.specs.Times.{clocks_in, AreClocksOf, AreTimes}
use Rattle.query_engine.specs.Running.{IsFirst, AreNamed}
use Rattle.query_engine.proofs.Named.{noted_first}
use Rattle.query_engine.proofs.Dispatched.{watching_first, left_looked, first_known, first_within}
use Rattle.query_engine.proofs.Keeping.{query_states_queries, first_schemas, first_checked}
use Rattle.query_engine.proofs.Taking.{first_stands, first_keeps, first_peaks}
use Rattle.query_engine.proofs.engine.Engine.seeded.Goals as goal

pub of-requires-2-clause-schemas : goal.of-requires-2-clause-schemas
of-requires-2-clause-schemas c =
    let first = subst (λ (s : Declared). All (IsFirst s) c.add_query_states.new.query_states.items) c.in_ok-shared.ensures c.in_ok-add_query_states.ensures.first in
    subst (All (λ (p : Phase). p.schema ≡ c.args.schema)) (sym c.as_slice-4.ensures.value) (first_schemas c.args.schema c.add_query_states.new.query_states.items first)

pub of-requires-2-clause-checked : goal.of-requires-2-clause-checked
of-requires-2-clause-checked c =
    subst (All (λ (p : Phase). IsChecked c.args.schema p.query)) (sym c.as_slice-4.ensures.value) (first_checked c.args.schema c.args.queries c.add_query_states.new.query_states.items (c.in_ok-add_query_states.ensures.queries ∙ c.into_vec.ensures) c.requires.checked)

pub returns : goal.returns
unfolding count_of
returns c =
    let first = subst (λ (s : Declared). All (IsFirst s) c.add_query_states.new.query_states.items) c.in_ok-shared.ensures c.in_ok-add_query_states.ensures.first in
    let query_states = c.add_query_states.new.query_states.items in
    let clocks = clocks_in c.in_ok-times.times in
    let are = subst (λ (ps : List Phase). AreClocksOf c.args.schema (map (λ (p : Phase). p.query) ps) [] clocks) c.as_slice-4.ensures.value c.in_ok-times.ensures.clocks in
    record {
      given = (refl, query_states_queries 0 query_states clocks ∙ (c.in_ok-add_query_states.ensures.queries ∙ c.into_vec.ensures));
      stands = first_stands c.args.schema clocks query_states c.in_ok-peaks.peaks.items first are;
      count = refl;
      peaks = first_peaks c.args.schema clocks query_states c.in_ok-peaks.peaks.items first c.in_ok-peaks.ensures.zero;
    }

pub invariant_of-result : goal.invariant_of-result
invariant_of-result c =
    let first = subst (λ (s : Declared). All (IsFirst s) c.add_query_states.new.query_states.items) c.in_ok-shared.ensures c.in_ok-add_query_states.ensures.first in
    let query_states = c.add_query_states.new.query_states.items in
    let clocks = clocks_in c.in_ok-times.times in
    let are = subst (λ (ps : List Phase). AreClocksOf c.args.schema (map (λ (p : Phase). p.query) ps) [] clocks) c.as_slice-4.ensures.value c.in_ok-times.ensures.clocks in (
      first_keeps c.args.schema clocks query_states c.in_ok-peaks.peaks.items first are (c.in_ok-peaks.ensures.count ∙ ap length c.as_slice-2.ensures.value),
      noted_first query_states (map (phase_at 0) query_states) c.in_ok-touched.touched.items c.in_ok-all.all.items
          (subst (λ (ps : List Phase). AreNamed (λ (p : Phase). ⊥) (length ps) ps c.in_ok-all.all.items) c.as_slice-3.ensures.value c.in_ok-all.ensures),
      watching_first c.args.schema (map (λ (p : Phase). p.query) query_states) c.as_slice-listed.result.now query_states c.look.new.self.leaf_index c.look.new.self.activity c.look.new.self.marked c.look.new.self.read c.look.new.self.leaves.items
          (c.in_ok-add_query_states.ensures.queries ∙ (c.into_vec.ensures ∙ sym c.as_slice-listed.ensures)) refl
          (subst (λ (t : Table). IsLeafIndex c.args.schema c.as_slice-listed.result.now t.rows t.leaves) (sym c.look.ensures.same.0) c.in_ok-dispatch.ensures.leaf_index)
          (subst (λ (t : Table). AreExact c.args.schema c.as_slice-listed.result.now t.rows t.leaves) (sym c.look.ensures.same.0) c.in_ok-dispatch.ensures.exact)
          (subst (λ (t : Table). AreWaiting c.as_slice-listed.result.now t.rows t.leaves) (sym c.look.ensures.same.0) c.in_ok-dispatch.ensures.waiting)
          (ap (λ (t : Table). t.count) c.look.ensures.same.0 ∙ c.in_ok-dispatch.ensures.count)
          (c.look.ensures.room.0 ∙ c.in_ok-dispatch.ensures.room)
          (c.look.ensures.room.1 ∙ (c.in_ok-dispatch.ensures.open ∙ sym c.look.ensures.room.0))
          (ap (λ (b : List Bool). length b) c.look.ensures.same.1 ∙ (c.in_ok-dispatch.ensures.sets ∙ sym c.look.ensures.room.0))
          (ap (λ (b : List Bool). length b) c.look.ensures.same.2 ∙ (c.in_ok-dispatch.ensures.reads ∙ sym c.look.ensures.room.0))
          (ap (λ (v : Vec (List Bool) Global). map (λ (set : List Bool). length set) v.items) c.look.ensures.same.3 ∙ c.in_ok-dispatch.ensures.leaves)
          (left_looked 0 c.as_slice.result.now query_states c.look.new.self.activity (sym c.as_slice.ensures.value) (subst (All (λ (p : Phase). p.upto ≤ 0)) (sym c.as_slice.ensures.value) (first_known c.args.schema query_states first)) c.look.ensures.looked),
      subst (λ (ps : List Phase). AreTimes c.args.schema (map (λ (p : Phase). p.query) ps) c.in_ok-times.times.groups.items c.in_ok-times.times.numbers.items c.in_ok-times.times.by_type.items) c.as_slice-4.ensures.value c.in_ok-times.ensures.times,
    )

pub look-requires-clause-active : goal.look-requires-clause-active
look-requires-clause-active c =
    let same = ap (λ (ps : List Phase). length ps) c.as_slice.ensures.value in
    let within = first_within c.into_vec.result.items c.as_slice-listed.result.now c.add_query_states.new.query_states.items c.in_ok-dispatch.dispatch.activity.active_queries c.in_ok-add_query_states.ensures.queries (c.into_vec.ensures ∙ sym c.as_slice-listed.ensures) c.in_ok-dispatch.ensures.room in
    omega arith

pub look-requires-clause-open : goal.look-requires-clause-open
look-requires-clause-open c =
    let same = ap (λ (ps : List Phase). length ps) c.as_slice.ensures.value in
    let within = first_within c.into_vec.result.items c.as_slice-listed.result.now c.add_query_states.new.query_states.items c.in_ok-dispatch.dispatch.activity.active_queries c.in_ok-add_query_states.ensures.queries (c.into_vec.ensures ∙ sym c.as_slice-listed.ensures) c.in_ok-dispatch.ensures.room in
    let same_room = c.in_ok-dispatch.ensures.open in
    omega arith
