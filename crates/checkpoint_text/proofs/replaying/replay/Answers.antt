use Rattle.std.proofs.Common.{◌≡◌, ◌≤◌, List, length, ap, subst, Some, slice_get, arith, refl}
use Rattle.std.proofs.lemmas.Option.{slice_get_read}
use Rattle.stream_schema.specs.Types.{IsWellDeclared}
use Rattle.query_engine.specs.Engine.{peak_of}
use Rattle.query_engine.proofs.Skipped.{skipping_keeps_dense}
use Rattle.query_engine.proofs.Windows.{first_follows_window}
use Rattle.checkpoint_text.specs.declared.history.EventAt.{EventAt}
use Rattle.checkpoint_text.proofs.Replayed.{none_reached, none_measured, next_ahead, next_in_time, next_reached, next_measured, part_reached, part_measured, all_reached, all_peaks, all_steps}
use Rattle.checkpoint_text.proofs.replaying.replay.Goals as goal

pub loop-k-init : goal.loop-k-init
loop-k-init g c =
    let well = subst IsWellDeclared c.schema.ensures c.well_declared.ensures in (
      none_reached c.args.engine.now.schema c.args.engine.now.queries c.args.history.now well c.requires.history c.args.engine.now refl refl c.requires.none c.requires.fresh (first_follows_window c.args.engine.now c.requires.fresh).0,
      none_measured c.args.engine.now.schema c.args.engine.now.queries c.args.history.now well c.requires.history c.args.engine.now c.args.steps.now,
    )

pub replay_event-requires-clause-ahead : goal.replay_event-requires-clause-ahead
replay_event-requires-clause-ahead g c =
    let well = subst IsWellDeclared c.schema.ensures c.well_declared.ensures in
    let read = slice_get_read c.as_slice-events.result.now (length c.as_slice-events.result.now) c.loop-k.k c.index-events-k.result refl c.loop-k-test.true c.index-events-k.is in
    let at = subst (λ (es : List EventAt). slice_get es c.loop-k.k ≡ Some c.index-events-k.result) c.as_slice-events.ensures read in
    next_ahead c.args.engine.now.schema c.args.engine.now.queries c.args.history.now well c.requires.history c.loop-k.k c.index-events-k.result at c.loop-k.engine c.loop-k.invariant.0

pub replay_event-requires-clause-in_time : goal.replay_event-requires-clause-in_time
replay_event-requires-clause-in_time g c =
    let well = subst IsWellDeclared c.schema.ensures c.well_declared.ensures in
    let read = slice_get_read c.as_slice-events.result.now (length c.as_slice-events.result.now) c.loop-k.k c.index-events-k.result refl c.loop-k-test.true c.index-events-k.is in
    let at = subst (λ (es : List EventAt). slice_get es c.loop-k.k ≡ Some c.index-events-k.result) c.as_slice-events.ensures read in
    next_in_time c.args.engine.now.schema c.args.engine.now.queries c.args.history.now well c.requires.history c.loop-k.k c.index-events-k.result at c.loop-k.engine c.loop-k.invariant.0

pub returns-in-Err-clause-part : goal.returns-in-Err-clause-part
returns-in-Err-clause-part g c =
    let well = subst IsWellDeclared c.schema.ensures c.well_declared.ensures in
    let read = slice_get_read c.as_slice-events.result.now (length c.as_slice-events.result.now) c.loop-k.k c.index-events-k.result refl c.loop-k-test.true c.index-events-k.is in
    let at = subst (λ (es : List EventAt). slice_get es c.loop-k.k ≡ Some c.index-events-k.result) c.as_slice-events.ensures read in
    part_reached c.args.engine.now.schema c.args.engine.now.queries c.args.history.now well c.requires.history c.loop-k.k c.index-events-k.result at c.loop-k.engine c.loop-k.invariant.0 c.replay_event.new.engine c.in-Err.ensures.place c.in-Err.ensures.before

pub loop-k-preserved : goal.loop-k-preserved
loop-k-preserved g c =
    let well = subst IsWellDeclared c.schema.ensures c.well_declared.ensures in
    let read = slice_get_read c.as_slice-events.result.now (length c.as_slice-events.result.now) c.loop-k.k c.index-events-k.result refl c.loop-k-test.true c.index-events-k.is in
    let at = subst (λ (es : List EventAt). slice_get es c.loop-k.k ≡ Some c.index-events-k.result) c.as_slice-events.ensures read in (
      next_reached c.args.engine.now.schema c.args.engine.now.queries c.args.history.now well c.requires.history c.loop-k.k c.index-events-k.result at c.loop-k.engine c.loop-k.invariant.0 c.replay_event.new.engine c.replay_event.ensures.same c.in-Ok.ensures.count c.in-Ok.ensures.stands c.in-Ok.ensures.dense,
      next_measured c.args.engine.now.schema c.args.engine.now.queries c.args.history.now well c.requires.history c.loop-k.k c.index-events-k.result at c.loop-k.engine c.loop-k.invariant.0 c.replay_event.new.engine (peak_of c.args.engine.now) c.args.steps.now c.loop-k.steps c.replay_event.new.steps c.loop-k.invariant.1
          (c.in-Ok.ensures.peaks (peak_of c.args.engine.now)) c.replay_event.ensures.steps,
    )

pub returns-clause-replayed : goal.returns-clause-replayed
returns-clause-replayed g c =
    let well = subst IsWellDeclared c.schema.ensures c.well_declared.ensures in
    let long = ap length c.as_slice-events.ensures in
    let past = c.loop-k-test.false in
    let end : length c.args.history.now.events ≤ c.loop-k.k = omega (arith, long, past) in
    all_reached c.args.engine.now.schema c.args.engine.now.queries c.args.history.now well c.requires.history c.loop-k.k c.loop-k.engine c.skip_to.new.self end c.loop-k.invariant.0 c.skip_to.ensures.same c.skip_to.ensures.count c.skip_to.ensures.stands
    (λ events blanks dense. skipping_keeps_dense c.loop-k.engine c.skip_to.new.self events blanks c.skip_to.ensures.same c.skip_to.ensures.kept dense)

pub returns-clause-peaks : goal.returns-clause-peaks
returns-clause-peaks g c =
    let well = subst IsWellDeclared c.schema.ensures c.well_declared.ensures in
    let long = ap length c.as_slice-events.ensures in
    let past = c.loop-k-test.false in
    let end : length c.args.history.now.events ≤ c.loop-k.k = omega (arith, long, past) in
    all_peaks c.args.engine.now.schema c.args.engine.now.queries c.args.history.now well c.requires.history c.loop-k.k c.loop-k.engine c.skip_to.new.self (peak_of c.args.engine.now) c.args.steps.now c.loop-k.steps end c.loop-k.invariant.1 c.skip_to.ensures.same c.skip_to.ensures.kept

pub returns-clause-steps : goal.returns-clause-steps
returns-clause-steps g c =
    let well = subst IsWellDeclared c.schema.ensures c.well_declared.ensures in
    let long = ap length c.as_slice-events.ensures in
    let past = c.loop-k-test.false in
    let end : length c.args.history.now.events ≤ c.loop-k.k = omega (arith, long, past) in
    all_steps c.args.engine.now.schema c.args.engine.now.queries c.args.history.now well c.requires.history c.loop-k.k c.loop-k.engine (peak_of c.args.engine.now) c.args.steps.now c.loop-k.steps end c.loop-k.invariant.1

pub returns-in-Err-clause-steps : goal.returns-in-Err-clause-steps
returns-in-Err-clause-steps g c =
    let well = subst IsWellDeclared c.schema.ensures c.well_declared.ensures in
    let read = slice_get_read c.as_slice-events.result.now (length c.as_slice-events.result.now) c.loop-k.k c.index-events-k.result refl c.loop-k-test.true c.index-events-k.is in
    let at = subst (λ (es : List EventAt). slice_get es c.loop-k.k ≡ Some c.index-events-k.result) c.as_slice-events.ensures read in
    part_measured c.args.engine.now.schema c.args.engine.now.queries c.args.history.now well c.requires.history c.loop-k.k c.index-events-k.result at c.loop-k.engine c.loop-k.invariant.0 (peak_of c.args.engine.now) c.args.steps.now c.loop-k.steps c.replay_event.new.steps c.loop-k.invariant.1 c.replay_event.ensures.steps
