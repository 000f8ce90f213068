use Rattle.std.proofs.Common.{◌≡◌, ◌+◌, ◌≤◌, ◌⊎◌, rules, ℕ, true, false, List, Option, Some, None, sym, ap, subst, ◌∙◌, slice_index_or, arith}
use Rattle.std.specs.Prelude.{Vec}
use Rattle.std.specs.declared.alloc.Global.{Global}
use Rattle.std.specs.Prelude.{◌≤ℤ◌}
use Rattle.std.proofs.lemmas.Int.{ints}
use Rattle.query_standing.specs.Clocks.{low_of}
use Rattle.std.specs.Int.{w128}
use mir.Val.{SFits, to_z, of_z}
use Rattle.std.proofs.lemmas.Int.{to_z-of_z}
use Rattle.cel_terms.specs.Answers.{HasClock}
use Rattle.window_clock.specs.Places.{IsNear}
use Rattle.all_or_none.specs.Phases.{Phase, IsIdle, IsStep, IsNoOpFor, back}
use Rattle.all_or_none.specs.Dormancy.{here_at, phase_at}
use Rattle.cer_base.specs.Bits.{room_for}
use Rattle.query_state.specs.KeyPlaces.{key_there}
use Rattle.query_state.specs.declared.matches.Ready.{Ready}
use Rattle.query_state.specs.Matches.{OpenMatches, cut, CanCut, Stays, IsOwnReady, HasOwnWorked}
use Rattle.query_state.specs.declared.own.Own.{Own}
use Rattle.query_state.specs.Own.{IsOwn}
use Rattle.query_state.specs.QueryStates.{query_state_of, put_in, ready_of, IsMade, CanEnd, AreFirst, MayBeSkipInsensitive, MayBeWhole}
use Rattle.query_state.proofs.Cases.{unread_step, can_take, starts_in_step}
use Rattle.query_state.proofs.Prepare.{sleeper, as_it_was, facts, idle_fields, idle_ends, now_is, have_times, made_after, own_leaves, number_inside, not_read, does_read, idle_query_state}
use Rattle.query_state.proofs.AfterNoOps.{passes_unread}
use Rattle.query_state.proofs.OwnKey.{at_none, at_some, stays_pass, stays_step, ready_step, own_within}
use Rattle.query_state.proofs.state.QueryStateParticipant.prepare.Goals as goal

pub returns-then-self-position-clause-no_op : goal.returns-then-self-position-clause-no_op
returns-then-self-position-clause-no_op g c =
    let f = facts c.self.inside.schema.value c.self.inside.query c.args.event.now c.args.position c.self.inside.step c.self.inside.ready c.self.inside.sizes c.self.inside.matches c.self.inside.here c.self.inside.upto c.args.self.now c.self.view_is c.requires.idle c.requires.can in
    let told : slice_index_or c.self.inside.types.value.items c.args.event.now.ty false ≡ false = search rules in
    let le : c.self.inside.upto ≤ c.args.position = search rules in
    λ by. subst (λ (p : Phase). IsNoOpFor c.args.event.now c.args.position (phase_at c.args.position p) (phase_at (c.args.position + 1) p)) (idle_fields c.self.inside.schema.value c.self.inside.query c.self.inside.step c.self.inside.ready c.self.inside.sizes c.self.inside.matches c.self.inside.here c.self.inside.upto c.args.self.now c.self.view_is c.requires.idle)
    (passes_unread c.self.inside.schema.value c.self.inside.query c.args.event.now c.args.position c.self.inside.matches c.self.inside.here c.self.inside.upto le (not_read c.self.inside.schema.value c.self.inside.query c.self.inside.types.value.items c.args.event.now c.self.invariant.0.types f.of_schema told))

pub returns-then-not-is_read-clause-ready : goal.returns-then-not-is_read-clause-ready
returns-then-not-is_read-clause-ready g c =
    let f = facts c.self.inside.schema.value c.self.inside.query c.args.event.now c.args.position c.self.inside.step c.self.inside.ready c.self.inside.sizes c.self.inside.matches c.self.inside.here c.self.inside.upto c.args.self.now c.self.view_is c.requires.idle c.requires.can in
    let told : slice_index_or c.self.inside.types.value.items c.args.event.now.ty false ≡ false = search rules in
    λ by. unread_step c.self.inside.schema.value c.self.inside.query c.args.event.now c.args.position c.self.inside.matches (here_at c.self.inside.upto c.args.position c.self.inside.here) (not_read c.self.inside.schema.value c.self.inside.query c.self.inside.types.value.items c.args.event.now c.self.invariant.0.types f.of_schema told)

pub now-clock-requires : goal.now-clock-requires
now-clock-requires g c =
    let f = facts c.self.inside.schema.value c.self.inside.query c.args.event.now c.args.position c.self.inside.step c.self.inside.ready c.self.inside.sizes c.self.inside.matches c.self.inside.here c.self.inside.upto c.args.self.now c.self.view_is c.requires.idle c.requires.can in
    let told : slice_index_or c.self.inside.types.value.items c.args.event.now.ty false ≡ true = search rules in
    let does = does_read c.self.inside.schema.value c.self.inside.query c.self.inside.types.value.items c.args.event.now c.self.invariant.0.types f.of_schema told in
    record { there = c.self.invariant.0.clocks c.args.event.now c.args.position f.of_schema does }

pub advance_own-requires-clause-event : goal.advance_own-requires-clause-event
advance_own-requires-clause-event g c =
    let f = facts c.self.inside.schema.value c.self.inside.query c.args.event.now c.args.position c.self.inside.step c.self.inside.ready c.self.inside.sizes c.self.inside.matches c.self.inside.here c.self.inside.upto c.args.self.now c.self.view_is c.requires.idle c.requires.can in
    let told : slice_index_or c.self.inside.types.value.items c.args.event.now.ty false ≡ true = search rules in
    let does = does_read c.self.inside.schema.value c.self.inside.query c.self.inside.types.value.items c.args.event.now c.self.invariant.0.types f.of_schema told in
    let small : SFits w128 c.now-clock.result = search rules in
    let same : to_z w128 (of_z w128 c.now-clock.result) ≡ c.now-clock.result = to_z-of_z _ _ small in
    let clock = now_is c.self.inside.schema.value c.self.inside.query.window c.self.inside.clock.source c.args.event.now c.args.position c.now-clock.result (to_z w128 (of_z w128 c.now-clock.result)) c.self.invariant.0.clock c.now-clock.ensures.clock same in
    record {
      well_formed = f.stands.nodes;
      in_step = rw c.in_ok-start_clock.ensures (starts_in_step c.self.inside.schema.value c.self.inside.query f.events c.args.event.now (query_state_of c.self.inside.matches f.clock (here_at c.self.inside.upto c.args.position c.self.inside.here)) (record { pos = c.args.position; clock = to_z w128 (of_z w128 c.now-clock.result) }) (sym f.count) f.in_time does (subst (λ p. HasClock c.self.inside.schema.value c.self.inside.query.window c.args.event.now p (to_z w128 (of_z w128 c.now-clock.result))) (sym f.count) clock) f.stands);
      bits_are = (own_leaves c.self.inside.schema.value c.self.inside.query c.self.inside.types.value.items c.self.inside.keys.value.items c.self.inside.clock.source c.args.event.now c.args.position c.self.inside.step c.self.inside.ready c.self.inside.sizes c.self.inside.matches c.self.inside.here c.self.inside.upto c.args.self.now c.args.reads c.args.leaves.now c.self.inside.no_leaves c.leaves_for-bits.result.now c.self.view_is c.self.invariant.0 c.requires.read c.requires.unread c.leaves_for-bits.ensures.told c.leaves_for-bits.ensures.none).room;
      can = rw c.in_ok-start_clock.ensures (can_take c.self.inside.schema.value c.self.inside.query f.events c.self.inside.matches f.clock (here_at c.self.inside.upto c.args.position c.self.inside.here) (record { pos = c.args.position; clock = to_z w128 (of_z w128 c.now-clock.result) }) (sym f.count) f.stands);
    }

pub invariant_of-self-in-Err : goal.invariant_of-self-in-Err
invariant_of-self-in-Err g c =
    let rest : ready_of c.self.inside.step c.self.inside.ready c.self.inside.matches c.self.inside.here ≡ None = subst IsIdle (sym c.self.view_is) c.requires.idle in
    subst (λ h. IsMade c.self.inside.schema.value c.self.inside.query c.self.inside.types.value.items c.self.inside.keys.value.items c.self.inside.clock.source c.self.inside.no_leaves h × CanEnd c.self.inside.step c.self.inside.ready c.advance_own.new.sizes h × AreFirst c.self.inside.query c.self.inside.first × MayBeSkipInsensitive c.self.inside.query c.self.inside.skip_insensitive × MayBeWhole c.self.inside.schema.value c.self.inside.keys.value.items c.self.inside.whole) (sym c.in-Err.ensures.refused)
    (c.self.invariant.0, idle_ends c.self.inside.step c.self.inside.ready c.advance_own.new.sizes c.self.inside.matches c.self.inside.here rest, c.self.invariant.2, c.self.invariant.3, c.self.invariant.4)

pub returns-then-self-position-2-clause-no_op : goal.returns-then-self-position-2-clause-no_op
returns-then-self-position-2-clause-no_op g c =
    let f = facts c.self.inside.schema.value c.self.inside.query c.args.event.now c.args.position c.self.inside.step c.self.inside.ready c.self.inside.sizes c.self.inside.matches c.self.inside.here c.self.inside.upto c.args.self.now c.self.view_is c.requires.idle c.requires.can in
    let bits_are = (own_leaves c.self.inside.schema.value c.self.inside.query c.self.inside.types.value.items c.self.inside.keys.value.items c.self.inside.clock.source c.args.event.now c.args.position c.self.inside.step c.self.inside.ready c.self.inside.sizes c.self.inside.matches c.self.inside.here c.self.inside.upto c.args.self.now c.args.reads c.args.leaves.now c.self.inside.no_leaves c.leaves_for-bits.result.now c.self.view_is c.self.invariant.0 c.requires.read c.requires.unread c.leaves_for-bits.ensures.told c.leaves_for-bits.ensures.none).are in
    let stays = subst (λ (t : List (Option (List ℕ))). Stays c.self.inside.matches (key_there t c.args.event.now) c.self.inside.first c.leaves_for-bits.result.now c.self.inside.skip_insensitive) (c.as_slice-table.ensures.value ∙ ap (λ (v : Vec (Option (List ℕ)) Global). v.items) c.deref-2.ensures)
    (subst (λ (o : Own). IsOwn o c.self.inside.matches c.as_slice-table.result.now c.args.event.now c.self.inside.first c.leaves_for-bits.result.now c.self.inside.skip_insensitive) c.in-NoOp.is c.look-own.ensures) in
    let told : slice_index_or c.self.inside.types.value.items c.args.event.now.ty false ≡ true = search rules in
    let does = does_read c.self.inside.schema.value c.self.inside.query c.self.inside.types.value.items c.args.event.now c.self.invariant.0.types f.of_schema told in
    let le : c.self.inside.upto ≤ c.args.position = search rules in
    λ by. subst (λ (p : Phase). IsNoOpFor c.args.event.now c.args.position (phase_at c.args.position p) (phase_at (c.args.position + 1) p)) (idle_fields c.self.inside.schema.value c.self.inside.query c.self.inside.step c.self.inside.ready c.self.inside.sizes c.self.inside.matches c.self.inside.here c.self.inside.upto c.args.self.now c.self.view_is c.requires.idle)
    (stays_pass c.self.inside.schema.value c.self.inside.query c.self.inside.keys.value.items c.self.inside.first c.leaves_for-bits.result.now c.self.inside.skip_insensitive c.args.event.now c.args.position c.self.inside.matches c.self.inside.here c.self.inside.upto (have_times c.self.inside.schema.value c.self.inside.query c.self.inside.clock.source c.self.invariant.0.clocks c.self.invariant.0.clock) le c.self.invariant.0.keys f.of_schema does bits_are c.self.invariant.3 c.self.invariant.2 stays)

pub invariant_of-self-in-Ok-Some : goal.invariant_of-self-in-Ok-Some
invariant_of-self-in-Ok-Some g c =
    let r = at_some (λ (r : Ready). IsOwnReady (record { pos = c.args.position; clock = to_z w128 (of_z w128 c.now-clock.result) }) c.of-low.result c.leaves_for-bits.result.now (key_there c.as_slice-table.result.now c.args.event.now) r.number r.staged c.self.inside.matches c.advance_own.new.matches) c.in-Ok-Some.field-0 c.in-Ok-Some.ready c.in-Ok-Some.field-0-is (rw c.in_ok-start_clock.ensures at c.in-Ok-Some.ensures.ready) in
    let m = at_some (λ (r : Ready). (cut c.advance_own.new.sizes c.advance_own.new.matches ≡ c.self.inside.matches) × CanCut c.advance_own.new.sizes c.advance_own.new.matches) c.in-Ok-Some.field-0 c.in-Ok-Some.ready c.in-Ok-Some.field-0-is c.in-Ok-Some.ensures.sizes in
    let small : SFits w128 c.now-clock.result = search rules in
    let same : to_z w128 (of_z w128 c.now-clock.result) ≡ c.now-clock.result = to_z-of_z _ _ small in (
      made_after c.self.inside.schema.value c.self.inside.query c.self.inside.types.value.items c.self.inside.keys.value.items c.self.inside.clock.source c.self.inside.no_leaves c.leaves_for-bits.result.now _ _ r.0 c.in-Ok-Some.ready.number c.in-Ok-Some.ready.staged c.self.inside.matches c.advance_own.new.matches c.self.invariant.0 r.2,
      (
        m.1,
        number_inside _ _ c.leaves_for-bits.result.now r.0 c.in-Ok-Some.ready.number c.in-Ok-Some.ready.staged c.self.inside.matches c.advance_own.new.matches r.2,
      ),
      c.self.invariant.2,
      c.self.invariant.3,
      c.self.invariant.4,
    )

pub returns-in-Err-clause-within : goal.returns-in-Err-clause-within
returns-in-Err-clause-within g c =
    let f = facts c.self.inside.schema.value c.self.inside.query c.args.event.now c.args.position c.self.inside.step c.self.inside.ready c.self.inside.sizes c.self.inside.matches c.self.inside.here c.self.inside.upto c.args.self.now c.self.view_is c.requires.idle c.requires.can in
    let i = idle_query_state c.self.inside.schema.value c.self.inside.query c.self.inside.step c.self.inside.ready c.self.inside.sizes c.self.inside.matches c.self.inside.here c.self.inside.upto c.args.position c.args.self.now c.self.view_is c.requires.idle in
    let told : slice_index_or c.self.inside.types.value.items c.args.event.now.ty false ≡ true = search rules in
    let does = does_read c.self.inside.schema.value c.self.inside.query c.self.inside.types.value.items c.args.event.now c.self.invariant.0.types f.of_schema told in
    let small : SFits w128 c.now-clock.result = search rules in
    let same : to_z w128 (of_z w128 c.now-clock.result) ≡ c.now-clock.result = to_z-of_z _ _ small in
    let clock = now_is c.self.inside.schema.value c.self.inside.query.window c.self.inside.clock.source c.args.event.now c.args.position c.now-clock.result (to_z w128 (of_z w128 c.now-clock.result)) c.self.invariant.0.clock c.now-clock.ensures.clock same in
    let bits_are = (own_leaves c.self.inside.schema.value c.self.inside.query c.self.inside.types.value.items c.self.inside.keys.value.items c.self.inside.clock.source c.args.event.now c.args.position c.self.inside.step c.self.inside.ready c.self.inside.sizes c.self.inside.matches c.self.inside.here c.self.inside.upto c.args.self.now c.args.reads c.args.leaves.now c.self.inside.no_leaves c.leaves_for-bits.result.now c.self.view_is c.self.invariant.0 c.requires.read c.requires.unread c.leaves_for-bits.ensures.told c.leaves_for-bits.ensures.none).are in
    own_within c.self.inside.schema.value c.self.inside.query c.self.inside.keys.value.items c.leaves_for-bits.result.now c.args.event.now c.args.position c.self.inside.matches (here_at c.self.inside.upto c.args.position c.self.inside.here) (phase_at c.args.position c.args.self.now) (to_z w128 (of_z w128 c.now-clock.result)) c.args.steps.now c.advance_own.new.steps i c.self.invariant.0.keys f.of_schema does clock bits_are
    (subst (λ (t : List (Option (List ℕ))). (c.advance_own.new.steps ≡ c.args.steps.now) ⊎ HasOwnWorked c.leaves_for-bits.result.now (key_there t c.args.event.now) c.self.inside.matches c.args.steps.now c.advance_own.new.steps) (c.as_slice-table.ensures.value ∙ ap (λ (v : Vec (Option (List ℕ)) Global). v.items) c.deref-2.ensures) c.advance_own.ensures.worked)

pub returns-in-Ok-Some-clause-within : goal.returns-in-Ok-Some-clause-within
returns-in-Ok-Some-clause-within g c =
    let f = facts c.self.inside.schema.value c.self.inside.query c.args.event.now c.args.position c.self.inside.step c.self.inside.ready c.self.inside.sizes c.self.inside.matches c.self.inside.here c.self.inside.upto c.args.self.now c.self.view_is c.requires.idle c.requires.can in
    let i = idle_query_state c.self.inside.schema.value c.self.inside.query c.self.inside.step c.self.inside.ready c.self.inside.sizes c.self.inside.matches c.self.inside.here c.self.inside.upto c.args.position c.args.self.now c.self.view_is c.requires.idle in
    let told : slice_index_or c.self.inside.types.value.items c.args.event.now.ty false ≡ true = search rules in
    let does = does_read c.self.inside.schema.value c.self.inside.query c.self.inside.types.value.items c.args.event.now c.self.invariant.0.types f.of_schema told in
    let small : SFits w128 c.now-clock.result = search rules in
    let same : to_z w128 (of_z w128 c.now-clock.result) ≡ c.now-clock.result = to_z-of_z _ _ small in
    let clock = now_is c.self.inside.schema.value c.self.inside.query.window c.self.inside.clock.source c.args.event.now c.args.position c.now-clock.result (to_z w128 (of_z w128 c.now-clock.result)) c.self.invariant.0.clock c.now-clock.ensures.clock same in
    let bits_are = (own_leaves c.self.inside.schema.value c.self.inside.query c.self.inside.types.value.items c.self.inside.keys.value.items c.self.inside.clock.source c.args.event.now c.args.position c.self.inside.step c.self.inside.ready c.self.inside.sizes c.self.inside.matches c.self.inside.here c.self.inside.upto c.args.self.now c.args.reads c.args.leaves.now c.self.inside.no_leaves c.leaves_for-bits.result.now c.self.view_is c.self.invariant.0 c.requires.read c.requires.unread c.leaves_for-bits.ensures.told c.leaves_for-bits.ensures.none).are in
    own_within c.self.inside.schema.value c.self.inside.query c.self.inside.keys.value.items c.leaves_for-bits.result.now c.args.event.now c.args.position c.self.inside.matches (here_at c.self.inside.upto c.args.position c.self.inside.here) (phase_at c.args.position c.args.self.now) (to_z w128 (of_z w128 c.now-clock.result)) c.args.steps.now c.advance_own.new.steps i c.self.invariant.0.keys f.of_schema does clock bits_are
    (subst (λ (t : List (Option (List ℕ))). (c.advance_own.new.steps ≡ c.args.steps.now) ⊎ HasOwnWorked c.leaves_for-bits.result.now (key_there t c.args.event.now) c.self.inside.matches c.args.steps.now c.advance_own.new.steps) (c.as_slice-table.ensures.value ∙ ap (λ (v : Vec (Option (List ℕ)) Global). v.items) c.deref-2.ensures) c.advance_own.ensures.worked)

pub returns-else-self-position-3-clause-ready : goal.returns-else-self-position-3-clause-ready
returns-else-self-position-3-clause-ready g c =
    let f = facts c.self.inside.schema.value c.self.inside.query c.args.event.now c.args.position c.self.inside.step c.self.inside.ready c.self.inside.sizes c.self.inside.matches c.self.inside.here c.self.inside.upto c.args.self.now c.self.view_is c.requires.idle c.requires.can in
    let told : slice_index_or c.self.inside.types.value.items c.args.event.now.ty false ≡ true = search rules in
    let does = does_read c.self.inside.schema.value c.self.inside.query c.self.inside.types.value.items c.args.event.now c.self.invariant.0.types f.of_schema told in
    let small : SFits w128 c.now-clock.result = search rules in
    let same : to_z w128 (of_z w128 c.now-clock.result) ≡ c.now-clock.result = to_z-of_z _ _ small in
    let clock = now_is c.self.inside.schema.value c.self.inside.query.window c.self.inside.clock.source c.args.event.now c.args.position c.now-clock.result (to_z w128 (of_z w128 c.now-clock.result)) c.self.invariant.0.clock c.now-clock.ensures.clock same in
    let bits_are = (own_leaves c.self.inside.schema.value c.self.inside.query c.self.inside.types.value.items c.self.inside.keys.value.items c.self.inside.clock.source c.args.event.now c.args.position c.self.inside.step c.self.inside.ready c.self.inside.sizes c.self.inside.matches c.self.inside.here c.self.inside.upto c.args.self.now c.args.reads c.args.leaves.now c.self.inside.no_leaves c.leaves_for-bits.result.now c.self.view_is c.self.invariant.0 c.requires.read c.requires.unread c.leaves_for-bits.ensures.told c.leaves_for-bits.ensures.none).are in
    let kept = at_none ((c.advance_own.new.matches ≡ c.self.inside.matches) × (c.advance_own.new.steps ≡ c.args.steps.now) × Stays c.self.inside.matches (key_there c.as_slice-table.result.now c.args.event.now) c.self.inside.first c.leaves_for-bits.result.now c.self.inside.skip_insensitive) c.in-Ok-None.field-0 c.in-Ok-None.field-0-is c.in-Ok-None.ensures.stays in
    let stays = subst (λ (t : List (Option (List ℕ))). Stays c.self.inside.matches (key_there t c.args.event.now) c.self.inside.first c.leaves_for-bits.result.now c.self.inside.skip_insensitive) (c.as_slice-table.ensures.value ∙ ap (λ (v : Vec (Option (List ℕ)) Global). v.items) c.deref-2.ensures) kept.2 in
    λ by. subst (λ h. IsStep c.self.inside.schema.value c.self.inside.query c.args.event.now c.args.position (query_state_of h None (here_at c.self.inside.upto c.args.position c.self.inside.here)) (query_state_of h None None)) (sym kept.0) (stays_step c.self.inside.schema.value c.self.inside.query c.self.inside.keys.value.items c.self.inside.first c.leaves_for-bits.result.now c.self.inside.skip_insensitive c.args.event.now c.args.position c.self.inside.matches (here_at c.self.inside.upto c.args.position c.self.inside.here) (to_z w128 (of_z w128 c.now-clock.result)) c.self.invariant.0.keys f.of_schema does clock bits_are c.self.invariant.3 c.self.invariant.2 stays)

pub returns-in-Ok-Some-clause-ready : goal.returns-in-Ok-Some-clause-ready
returns-in-Ok-Some-clause-ready g c =
    let f = facts c.self.inside.schema.value c.self.inside.query c.args.event.now c.args.position c.self.inside.step c.self.inside.ready c.self.inside.sizes c.self.inside.matches c.self.inside.here c.self.inside.upto c.args.self.now c.self.view_is c.requires.idle c.requires.can in
    let told : slice_index_or c.self.inside.types.value.items c.args.event.now.ty false ≡ true = search rules in
    let does = does_read c.self.inside.schema.value c.self.inside.query c.self.inside.types.value.items c.args.event.now c.self.invariant.0.types f.of_schema told in
    let small : SFits w128 c.now-clock.result = search rules in
    let same : to_z w128 (of_z w128 c.now-clock.result) ≡ c.now-clock.result = to_z-of_z _ _ small in
    let clock = now_is c.self.inside.schema.value c.self.inside.query.window c.self.inside.clock.source c.args.event.now c.args.position c.now-clock.result (to_z w128 (of_z w128 c.now-clock.result)) c.self.invariant.0.clock c.now-clock.ensures.clock same in
    let bits_are = (own_leaves c.self.inside.schema.value c.self.inside.query c.self.inside.types.value.items c.self.inside.keys.value.items c.self.inside.clock.source c.args.event.now c.args.position c.self.inside.step c.self.inside.ready c.self.inside.sizes c.self.inside.matches c.self.inside.here c.self.inside.upto c.args.self.now c.args.reads c.args.leaves.now c.self.inside.no_leaves c.leaves_for-bits.result.now c.self.view_is c.self.invariant.0 c.requires.read c.requires.unread c.leaves_for-bits.ensures.told c.leaves_for-bits.ensures.none).are in
    let r = at_some (λ (r : Ready). IsOwnReady (record { pos = c.args.position; clock = to_z w128 (of_z w128 c.now-clock.result) }) c.of-low.result c.leaves_for-bits.result.now (key_there c.as_slice-table.result.now c.args.event.now) r.number r.staged c.self.inside.matches c.advance_own.new.matches) c.in-Ok-Some.field-0 c.in-Ok-Some.ready c.in-Ok-Some.field-0-is (rw c.in_ok-start_clock.ensures at c.in-Ok-Some.ensures.ready) in
    let m = at_some (λ (r : Ready). (cut c.advance_own.new.sizes c.advance_own.new.matches ≡ c.self.inside.matches) × CanCut c.advance_own.new.sizes c.advance_own.new.matches) c.in-Ok-Some.field-0 c.in-Ok-Some.ready c.in-Ok-Some.field-0-is c.in-Ok-Some.ensures.sizes in
    let small_low : SFits w128 c.low_of.result = search rules in
    let low_is : c.of-low.result ≡ low_of c.self.inside.query.window (to_z w128 (of_z w128 c.now-clock.result)) = c.of-low.ensures ∙ to_z-of_z _ _ small_low ∙ c.low_of.ensures ∙ c.self.invariant.0.clock.low (to_z w128 (of_z w128 c.now-clock.result)) in
    let recent : c.of-low.result ≤ℤ low_of c.self.inside.query.window (to_z w128 (of_z w128 c.now-clock.result)) = omega (arith, ints, low_is) in
    let own = subst (λ (t : List (Option (List ℕ))). IsOwnReady (record { pos = c.args.position; clock = to_z w128 (of_z w128 c.now-clock.result) }) c.of-low.result c.leaves_for-bits.result.now (key_there t c.args.event.now) c.in-Ok-Some.ready.number c.in-Ok-Some.ready.staged c.self.inside.matches c.advance_own.new.matches) (c.as_slice-table.ensures.value ∙ ap (λ (v : Vec (Option (List ℕ)) Global). v.items) c.deref-2.ensures) r in
    λ by. subst (λ h. IsStep c.self.inside.schema.value c.self.inside.query c.args.event.now c.args.position (query_state_of h None (here_at c.self.inside.upto c.args.position c.self.inside.here)) (query_state_of (put_in c.in-Ok-Some.ready.number c.in-Ok-Some.ready.staged c.advance_own.new.matches) None (Some c.in-Ok-Some.ready.number))) (sym m.0)
    (ready_step c.self.inside.schema.value c.self.inside.query c.self.inside.keys.value.items c.of-low.result c.leaves_for-bits.result.now c.args.event.now c.args.position c.in-Ok-Some.ready.number c.in-Ok-Some.ready.staged c.self.inside.matches c.advance_own.new.matches (here_at c.self.inside.upto c.args.position c.self.inside.here) (to_z w128 (of_z w128 c.now-clock.result)) c.self.invariant.0.keys f.of_schema does clock bits_are recent own)

pub low_of-requires : goal.low_of-requires
low_of-requires g c =
    let small : SFits w128 c.now-clock.result = search rules in
    record { near = subst IsNear (sym (to_z-of_z _ _ small)) c.now-clock.ensures.near }

pub invariant_of-self-in-Ok-None : goal.invariant_of-self-in-Ok-None
invariant_of-self-in-Ok-None g c =
    let kept = at_none ((c.advance_own.new.matches ≡ c.self.inside.matches) × (c.advance_own.new.steps ≡ c.args.steps.now) × Stays c.self.inside.matches (key_there c.as_slice-table.result.now c.args.event.now) c.self.inside.first c.leaves_for-bits.result.now c.self.inside.skip_insensitive) c.in-Ok-None.field-0 c.in-Ok-None.field-0-is c.in-Ok-None.ensures.stays in
    (subst (λ (h : OpenMatches). IsMade c.self.inside.schema.value c.self.inside.query c.self.inside.types.value.items c.self.inside.keys.value.items c.self.inside.clock.source c.self.inside.no_leaves h) (sym kept.0) c.self.invariant.0, tt, c.self.invariant.2, c.self.invariant.3, c.self.invariant.4)

pub returns-in-Ok-Some-clause-kept : goal.returns-in-Ok-Some-clause-kept
returns-in-Ok-Some-clause-kept g c =
    let m = at_some (λ (r : Ready). (cut c.advance_own.new.sizes c.advance_own.new.matches ≡ c.self.inside.matches) × CanCut c.advance_own.new.sizes c.advance_own.new.matches) c.in-Ok-Some.field-0 c.in-Ok-Some.ready c.in-Ok-Some.field-0-is c.in-Ok-Some.ensures.sizes in
    ap (λ (h : OpenMatches). back (phase_at c.args.position (sleeper c.self.inside.schema.value c.self.inside.query h c.self.inside.here c.self.inside.upto))) m.0
    ∙ ap (λ (p : Phase). back (phase_at c.args.position p)) (idle_fields c.self.inside.schema.value c.self.inside.query c.self.inside.step c.self.inside.ready c.self.inside.sizes c.self.inside.matches c.self.inside.here c.self.inside.upto c.args.self.now c.self.view_is c.requires.idle)

pub returns-in-Err-clause-kept : goal.returns-in-Err-clause-kept
returns-in-Err-clause-kept g c =
    ap (λ (p : Phase). back (phase_at c.args.position p)) (as_it_was c.self.inside.schema.value c.self.inside.query c.self.inside.step c.self.inside.ready c.self.inside.sizes c.advance_own.new.sizes c.self.inside.matches c.advance_own.new.matches c.self.inside.here c.self.inside.upto c.args.self.now c.self.view_is c.requires.idle c.in-Err.ensures.refused)

pub returns-else-self-position-3-clause-kept : goal.returns-else-self-position-3-clause-kept
returns-else-self-position-3-clause-kept g c =
    let kept = at_none ((c.advance_own.new.matches ≡ c.self.inside.matches) × (c.advance_own.new.steps ≡ c.args.steps.now) × Stays c.self.inside.matches (key_there c.as_slice-table.result.now c.args.event.now) c.self.inside.first c.leaves_for-bits.result.now c.self.inside.skip_insensitive) c.in-Ok-None.field-0 c.in-Ok-None.field-0-is c.in-Ok-None.ensures.stays in
    ap (λ (h : OpenMatches). back (phase_at c.args.position (sleeper c.self.inside.schema.value c.self.inside.query h c.self.inside.here c.self.inside.upto))) kept.0
    ∙ ap (λ (p : Phase). back (phase_at c.args.position p)) (idle_fields c.self.inside.schema.value c.self.inside.query c.self.inside.step c.self.inside.ready c.self.inside.sizes c.self.inside.matches c.self.inside.here c.self.inside.upto c.args.self.now c.self.view_is c.requires.idle)

pub look-own-requires-clause-room : goal.look-own-requires-clause-room
look-own-requires-clause-room g c = c.self.invariant.2.room ∙ (ap room_for (sym c.self.invariant.0.size) ∙ sym (own_leaves c.self.inside.schema.value c.self.inside.query c.self.inside.types.value.items c.self.inside.keys.value.items c.self.inside.clock.source c.args.event.now c.args.position c.self.inside.step c.self.inside.ready c.self.inside.sizes c.self.inside.matches c.self.inside.here c.self.inside.upto c.args.self.now c.args.reads c.args.leaves.now c.self.inside.no_leaves c.leaves_for-bits.result.now c.self.view_is c.self.invariant.0 c.requires.read c.requires.unread c.leaves_for-bits.ensures.told c.leaves_for-bits.ensures.none).room)

pub advance_own-requires-clause-room : goal.advance_own-requires-clause-room
advance_own-requires-clause-room g c = c.self.invariant.2.room ∙ (ap room_for (sym c.self.invariant.0.size) ∙ sym (own_leaves c.self.inside.schema.value c.self.inside.query c.self.inside.types.value.items c.self.inside.keys.value.items c.self.inside.clock.source c.args.event.now c.args.position c.self.inside.step c.self.inside.ready c.self.inside.sizes c.self.inside.matches c.self.inside.here c.self.inside.upto c.args.self.now c.args.reads c.args.leaves.now c.self.inside.no_leaves c.leaves_for-bits.result.now c.self.view_is c.self.invariant.0 c.requires.read c.requires.unread c.leaves_for-bits.ensures.told c.leaves_for-bits.ensures.none).room)

pub returns-then-self-position-3-clause-kept : goal.returns-then-self-position-3-clause-kept
returns-then-self-position-3-clause-kept g c =
    let kept = at_none ((c.advance_own.new.matches ≡ c.self.inside.matches) × (c.advance_own.new.steps ≡ c.args.steps.now) × Stays c.self.inside.matches (key_there c.as_slice-table.result.now c.args.event.now) c.self.inside.first c.leaves_for-bits.result.now c.self.inside.skip_insensitive) c.in-Ok-None.field-0 c.in-Ok-None.field-0-is c.in-Ok-None.ensures.stays in
    ap (λ (p : Phase). back (phase_at c.args.position p)) (as_it_was c.self.inside.schema.value c.self.inside.query c.self.inside.step c.self.inside.ready c.self.inside.sizes c.advance_own.new.sizes c.self.inside.matches c.advance_own.new.matches c.self.inside.here c.self.inside.upto c.args.self.now c.self.view_is c.requires.idle kept.0)

pub returns-then-self-position-3-clause-left : goal.returns-then-self-position-3-clause-left
returns-then-self-position-3-clause-left g c =
    let kept = at_none ((c.advance_own.new.matches ≡ c.self.inside.matches) × (c.advance_own.new.steps ≡ c.args.steps.now) × Stays c.self.inside.matches (key_there c.as_slice-table.result.now c.args.event.now) c.self.inside.first c.leaves_for-bits.result.now c.self.inside.skip_insensitive) c.in-Ok-None.field-0 c.in-Ok-None.field-0-is c.in-Ok-None.ensures.stays in
    λ by count. ap (λ (p : Phase). phase_at count p) (as_it_was c.self.inside.schema.value c.self.inside.query c.self.inside.step c.self.inside.ready c.self.inside.sizes c.advance_own.new.sizes c.self.inside.matches c.advance_own.new.matches c.self.inside.here c.self.inside.upto c.args.self.now c.self.view_is c.requires.idle kept.0)

pub returns-then-self-position-3-clause-no_op : goal.returns-then-self-position-3-clause-no_op
returns-then-self-position-3-clause-no_op g c =
    let f = facts c.self.inside.schema.value c.self.inside.query c.args.event.now c.args.position c.self.inside.step c.self.inside.ready c.self.inside.sizes c.self.inside.matches c.self.inside.here c.self.inside.upto c.args.self.now c.self.view_is c.requires.idle c.requires.can in
    let told : slice_index_or c.self.inside.types.value.items c.args.event.now.ty false ≡ true = search rules in
    let does = does_read c.self.inside.schema.value c.self.inside.query c.self.inside.types.value.items c.args.event.now c.self.invariant.0.types f.of_schema told in
    let bits_are = (own_leaves c.self.inside.schema.value c.self.inside.query c.self.inside.types.value.items c.self.inside.keys.value.items c.self.inside.clock.source c.args.event.now c.args.position c.self.inside.step c.self.inside.ready c.self.inside.sizes c.self.inside.matches c.self.inside.here c.self.inside.upto c.args.self.now c.args.reads c.args.leaves.now c.self.inside.no_leaves c.leaves_for-bits.result.now c.self.view_is c.self.invariant.0 c.requires.read c.requires.unread c.leaves_for-bits.ensures.told c.leaves_for-bits.ensures.none).are in
    let kept = at_none ((c.advance_own.new.matches ≡ c.self.inside.matches) × (c.advance_own.new.steps ≡ c.args.steps.now) × Stays c.self.inside.matches (key_there c.as_slice-table.result.now c.args.event.now) c.self.inside.first c.leaves_for-bits.result.now c.self.inside.skip_insensitive) c.in-Ok-None.field-0 c.in-Ok-None.field-0-is c.in-Ok-None.ensures.stays in
    let stays = subst (λ (t : List (Option (List ℕ))). Stays c.self.inside.matches (key_there t c.args.event.now) c.self.inside.first c.leaves_for-bits.result.now c.self.inside.skip_insensitive) (c.as_slice-table.ensures.value ∙ ap (λ (v : Vec (Option (List ℕ)) Global). v.items) c.deref-2.ensures) kept.2 in
    let le : c.self.inside.upto ≤ c.args.position = search rules in
    λ by. subst (λ (p : Phase). IsNoOpFor c.args.event.now c.args.position (phase_at c.args.position p) (phase_at (c.args.position + 1) p)) (idle_fields c.self.inside.schema.value c.self.inside.query c.self.inside.step c.self.inside.ready c.self.inside.sizes c.self.inside.matches c.self.inside.here c.self.inside.upto c.args.self.now c.self.view_is c.requires.idle ∙ sym (as_it_was c.self.inside.schema.value c.self.inside.query c.self.inside.step c.self.inside.ready c.self.inside.sizes c.advance_own.new.sizes c.self.inside.matches c.advance_own.new.matches c.self.inside.here c.self.inside.upto c.args.self.now c.self.view_is c.requires.idle kept.0))
    (stays_pass c.self.inside.schema.value c.self.inside.query c.self.inside.keys.value.items c.self.inside.first c.leaves_for-bits.result.now c.self.inside.skip_insensitive c.args.event.now c.args.position c.self.inside.matches c.self.inside.here c.self.inside.upto (have_times c.self.inside.schema.value c.self.inside.query c.self.inside.clock.source c.self.invariant.0.clocks c.self.invariant.0.clock) le c.self.invariant.0.keys f.of_schema does bits_are c.self.invariant.3 c.self.invariant.2 stays)

pub invariant_of-self-then-self-position-3 : goal.invariant_of-self-then-self-position-3
invariant_of-self-then-self-position-3 g c =
    let kept = at_none ((c.advance_own.new.matches ≡ c.self.inside.matches) × (c.advance_own.new.steps ≡ c.args.steps.now) × Stays c.self.inside.matches (key_there c.as_slice-table.result.now c.args.event.now) c.self.inside.first c.leaves_for-bits.result.now c.self.inside.skip_insensitive) c.in-Ok-None.field-0 c.in-Ok-None.field-0-is c.in-Ok-None.ensures.stays in
    let rest : ready_of c.self.inside.step c.self.inside.ready c.self.inside.matches c.self.inside.here ≡ None = subst IsIdle (sym c.self.view_is) c.requires.idle in
    subst (λ h. IsMade c.self.inside.schema.value c.self.inside.query c.self.inside.types.value.items c.self.inside.keys.value.items c.self.inside.clock.source c.self.inside.no_leaves h × CanEnd c.self.inside.step c.self.inside.ready c.advance_own.new.sizes h × AreFirst c.self.inside.query c.self.inside.first × MayBeSkipInsensitive c.self.inside.query c.self.inside.skip_insensitive × MayBeWhole c.self.inside.schema.value c.self.inside.keys.value.items c.self.inside.whole) (sym kept.0)
    (c.self.invariant.0, idle_ends c.self.inside.step c.self.inside.ready c.advance_own.new.sizes c.self.inside.matches c.self.inside.here rest, c.self.invariant.2, c.self.invariant.3, c.self.invariant.4)
