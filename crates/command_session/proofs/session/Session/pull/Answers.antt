-- The cursor is not open, or gives answers.
use Rattle.std.proofs.Common.{◌==◌, ◌∙◌, true, length, ap, refl, slice_set, position, arith}
use Rattle.std.proofs.lemmas.Option.{slice_get_read}
use Rattle.command_session.specs.declared.opened.CursorNumber.{CursorNumber}
use Rattle.command_session.specs.Sessions.{Session, PullIsWithin}
use Rattle.command_session.proofs.Stepping.{session, went_pull, broke_pull, within_pull, unrefused, not_open, unchanged, place_within}
use Rattle.command_session.proofs.Costs.{costs_pull}
use Rattle.command_session.proofs.session.Session.pull.Goals as goal

pub returns-in-None-clause-ended : goal.returns-in-None-clause-ended
returns-in-None-clause-ended g c = λ machine stands.
    let found = c.in-None.ensures ∙ ap (position (λ (o : CursorNumber). o.number == c.args.number)) c.as_slice.ensures.value in (
      (refl, not_open c.self.inside.engine c.self.inside.opened.items c.self.inside.cursors.items c.self.inside.closed c.self.inside.schedule.bases c.args.self.now machine c.args.number c.self.view_is c.self.invariant.0 found stands),
      unchanged c.args.self.now c.args.self.now (g.K.Sink.taken c.args.out.now) refl,
    )

pub returns-in-Ok-clause-ended : goal.returns-in-Ok-clause-ended
returns-in-Ok-clause-ended g c = λ machine stands.
    let e = c.self.inside.engine in
    let os = c.self.inside.opened.items in
    let cs = c.self.inside.cursors.items in
    let k = c.in-Some.k in
    let found = c.in-Some.ensures ∙ ap (position (λ (o : CursorNumber). o.number == c.args.number)) c.as_slice.ensures.value in
    let inside = place_within os c.args.number k found in
    let here = slice_get_read os (length os) k c.index.result.now refl inside c.index.ensures in
    let there = slice_get_read cs (length cs) k c.index_mut-cursor.result.now refl (omega (arith, inside, c.self.invariant.0.count)) c.index_mut-cursor.ensures.value in
    went_pull e os cs (slice_set cs k c.write_pull.new.cursor) c.self.inside.closed c.self.inside.schedule.bases c.args.self.now machine c.args.number c.args.n k c.index.result.now c.index_mut-cursor.result.now c.write_pull.new.cursor (g.K.Sink.taken c.args.out.now) (g.K.Sink.taken c.write_pull.new.out)
    c.self.view_is c.self.invariant.0 c.requires.going found here there refl c.in-Ok.ensures.left c.in-Ok.ensures.query c.in-Ok.ensures.took stands

pub returns-in-Ok-clause-steps : goal.returns-in-Ok-clause-steps
returns-in-Ok-clause-steps g c = λ machine stands.
    let e = c.self.inside.engine in
    let os = c.self.inside.opened.items in
    let cs = c.self.inside.cursors.items in
    let k = c.in-Some.k in
    let found = c.in-Some.ensures ∙ ap (position (λ (o : CursorNumber). o.number == c.args.number)) c.as_slice.ensures.value in
    let inside = place_within os c.args.number k found in
    let here = slice_get_read os (length os) k c.index.result.now refl inside c.index.ensures in
    let there = slice_get_read cs (length cs) k c.index_mut-cursor.result.now refl (omega (arith, inside, c.self.invariant.0.count)) c.index_mut-cursor.ensures.value in
    within_pull e os cs c.self.inside.closed c.self.inside.schedule.bases c.args.self.now machine c.args.number c.args.n k c.args.steps.now c.write_pull.new.steps c.index.result.now c.index_mut-cursor.result.now
    c.self.view_is c.self.invariant.0 found here there c.write_pull.ensures.steps stands

pub returns-in-Err-clause-ended : goal.returns-in-Err-clause-ended
returns-in-Err-clause-ended g c = λ machine stands.
    let e = c.self.inside.engine in
    let os = c.self.inside.opened.items in
    let cs = c.self.inside.cursors.items in
    let k = c.in-Some.k in
    let found = c.in-Some.ensures ∙ ap (position (λ (o : CursorNumber). o.number == c.args.number)) c.as_slice.ensures.value in
    let inside = place_within os c.args.number k found in
    let here = slice_get_read os (length os) k c.index.result.now refl inside c.index.ensures in
    let there = slice_get_read cs (length cs) k c.index_mut-cursor.result.now refl (omega (arith, inside, c.self.invariant.0.count)) c.index_mut-cursor.ensures.value in
    broke_pull e os cs c.self.inside.closed c.self.inside.schedule.bases c.args.self.now (session e os (slice_set cs k c.write_pull.new.cursor) true c.self.inside.schedule.bases) machine c.args.number c.args.n k c.index.result.now c.index_mut-cursor.result.now (g.K.Sink.taken c.args.out.now) (g.K.Sink.taken c.write_pull.new.out) c.in-Err.stop c.stopped.result
    c.self.view_is c.self.invariant.0 refl found here there c.stopped.ensures c.in-Err.ensures.took stands

pub returns-in-Err-clause-steps : goal.returns-in-Err-clause-steps
returns-in-Err-clause-steps g c = λ machine stands.
    let e = c.self.inside.engine in
    let os = c.self.inside.opened.items in
    let cs = c.self.inside.cursors.items in
    let k = c.in-Some.k in
    let found = c.in-Some.ensures ∙ ap (position (λ (o : CursorNumber). o.number == c.args.number)) c.as_slice.ensures.value in
    let inside = place_within os c.args.number k found in
    let here = slice_get_read os (length os) k c.index.result.now refl inside c.index.ensures in
    let there = slice_get_read cs (length cs) k c.index_mut-cursor.result.now refl (omega (arith, inside, c.self.invariant.0.count)) c.index_mut-cursor.ensures.value in
    unrefused c.args.steps.now c.write_pull.new.steps (PullIsWithin c.args.number c.args.n machine c.args.steps.now c.write_pull.new.steps) c.in-Err.stop c.stopped.result c.stopped.ensures
    (within_pull e os cs c.self.inside.closed c.self.inside.schedule.bases c.args.self.now machine c.args.number c.args.n k c.args.steps.now c.write_pull.new.steps c.index.result.now c.index_mut-cursor.result.now
    c.self.view_is c.self.invariant.0 found here there c.write_pull.ensures.steps stands)

pub returns-in-Ok-clause-costs : goal.returns-in-Ok-clause-costs
returns-in-Ok-clause-costs g c = λ machine stands.
    let e = c.self.inside.engine in
    let os = c.self.inside.opened.items in
    let cs = c.self.inside.cursors.items in
    let k = c.in-Some.k in
    let found = c.in-Some.ensures ∙ ap (position (λ (o : CursorNumber). o.number == c.args.number)) c.as_slice.ensures.value in
    let inside = place_within os c.args.number k found in
    let here = slice_get_read os (length os) k c.index.result.now refl inside c.index.ensures in
    let there = slice_get_read cs (length cs) k c.index_mut-cursor.result.now refl (omega (arith, inside, c.self.invariant.0.count)) c.index_mut-cursor.ensures.value in
    costs_pull e os cs c.self.inside.closed c.self.inside.schedule.bases c.args.self.now machine c.args.number c.args.n k c.args.steps.now c.write_pull.new.steps c.index.result.now c.index_mut-cursor.result.now
    c.self.view_is c.self.invariant.0 found here there c.write_pull.ensures.steps stands

pub returns-in-Err-clause-costs : goal.returns-in-Err-clause-costs
returns-in-Err-clause-costs g c = λ machine stands.
    let e = c.self.inside.engine in
    let os = c.self.inside.opened.items in
    let cs = c.self.inside.cursors.items in
    let k = c.in-Some.k in
    let found = c.in-Some.ensures ∙ ap (position (λ (o : CursorNumber). o.number == c.args.number)) c.as_slice.ensures.value in
    let inside = place_within os c.args.number k found in
    let here = slice_get_read os (length os) k c.index.result.now refl inside c.index.ensures in
    let there = slice_get_read cs (length cs) k c.index_mut-cursor.result.now refl (omega (arith, inside, c.self.invariant.0.count)) c.index_mut-cursor.ensures.value in
    costs_pull e os cs c.self.inside.closed c.self.inside.schedule.bases c.args.self.now machine c.args.number c.args.n k c.args.steps.now c.write_pull.new.steps c.index.result.now c.index_mut-cursor.result.now
    c.self.view_is c.self.invariant.0 found here there c.write_pull.ensures.steps stands

pub returns-in-Ok-clause-engine : goal.returns-in-Ok-clause-engine
returns-in-Ok-clause-engine g c = ap (λ (s : Session). s.engine) c.self.view_is

pub returns-in-Err-clause-engine : goal.returns-in-Err-clause-engine
returns-in-Err-clause-engine g c = ap (λ (s : Session). s.engine) c.self.view_is
