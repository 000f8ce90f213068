-- The cursor is not open, or goes.
use Rattle.std.proofs.Common.{◌==◌, ◌∙◌, ap, refl, position, rules}
use Rattle.command_session.specs.declared.opened.CursorNumber.{CursorNumber}
use Rattle.command_session.proofs.Stepping.{went_drop, not_open, unchanged}
use Rattle.command_session.proofs.session.Session.drop_cursor.Goals as goal

pub returns-in-None-clause-ended : goal.returns-in-None-clause-ended
returns-in-None-clause-ended c = λ machine taken stands.
    let found = c.in-None.ensures ∙ ap (position (λ (o : CursorNumber). o.number == c.args.number)) c.as_slice.ensures.value in (
      (refl, not_open c.self.inside.engine c.self.inside.opened.items c.self.inside.cursors.items c.self.inside.closed c.self.inside.schedule.bases c.args.self.now machine c.args.number c.self.view_is c.self.invariant.0 found stands),
      unchanged c.args.self.now c.args.self.now taken refl,
    )

pub returns-in-Some-clause-ended : goal.returns-in-Some-clause-ended
returns-in-Some-clause-ended c = λ machine taken stands.
    let found = c.in-Some.ensures ∙ ap (position (λ (o : CursorNumber). o.number == c.args.number)) c.as_slice.ensures.value in
    went_drop c.self.inside.engine c.self.inside.opened.items c.remove.new.self.items c.self.inside.cursors.items c.remove-in-Some.new.self.items c.self.inside.closed c.self.inside.schedule.bases c.args.self.now machine c.args.number c.in-Some.k taken
    c.self.view_is c.self.invariant.0 c.requires.going found (search rules) c.remove.ensures.items c.remove-in-Some.ensures.items stands
