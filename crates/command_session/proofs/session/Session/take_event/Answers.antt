-- The event comes, and its position is written or not.
use Rattle.std.proofs.Common.{◌∙◌, inl, true, refl, ap, rules}
use Rattle.std.specs.Int.{w128}
use mir.Val.{SFits}
use Rattle.std.proofs.lemmas.Int.{to_z-of_z}
use Rattle.command_session.specs.declared.command.ScriptCommand.TheVariants as command
use Rattle.command_session.specs.Sessions.{Session}
use Rattle.command_session.proofs.Stepping.{session, went_event, broke_event, fell, adds, adds_untold, within_untold}
use Rattle.command_session.proofs.Costs.{costs_event, costs_want, costs_refused}
use Rattle.command_session.proofs.session.Session.take_event.Goals as goal

pub returns-in-Ok-write_at-clause-ended : goal.returns-in-Ok-write_at-clause-ended
returns-in-Ok-write_at-clause-ended g c = λ machine stands.
    went_event c.self.inside.engine c.see.new.self c.self.inside.opened.items c.self.inside.cursors.items c.self.inside.closed c.self.inside.schedule.bases c.args.self.now machine c.args.event.now c.in-Ok.position (g.K.Sink.taken c.args.out.now) (g.K.Sink.taken c.write_at.new.out)
    c.self.view_is c.self.invariant.0 c.requires.going c.in-Ok.ensures.position c.in-Ok.ensures.stands c.in-Ok.ensures.cursors c.in-Ok.ensures.in_time c.in-Ok-write_at.ensures.took stands

pub returns-in-Err-clause-ended : goal.returns-in-Err-clause-ended
returns-in-Err-clause-ended g c = λ machine stands.
    broke_event c.self.inside.engine c.self.inside.opened.items c.self.inside.cursors.items c.self.inside.closed c.self.inside.schedule.bases c.args.self.now (session c.see.new.self c.self.inside.opened.items c.self.inside.cursors.items true c.self.inside.schedule.bases) machine c.args.event.now c.in-Ok.position
    (g.K.Sink.taken c.args.out.now) (g.K.Sink.taken c.write_at.new.out) c.in-Err.stop c.stopped.result c.self.view_is refl c.in-Ok.ensures.position c.stopped.ensures c.in-Ok.ensures.in_time c.in-Err.ensures.took stands

pub returns-in-Err-TimeBack-clause-ended : goal.returns-in-Err-TimeBack-clause-ended
returns-in-Err-TimeBack-clause-ended g c = λ machine stands.
    let before : SFits w128 c.in-Err-TimeBack.before = search rules in
    let now : SFits w128 c.in-Err-TimeBack.now = search rules in
    simp to_z-of_z (fell c.self.inside.engine c.see.new.self c.self.inside.opened.items c.self.inside.cursors.items c.self.inside.closed c.self.inside.schedule.bases c.args.self.now machine c.args.event.now c.in-Err-TimeBack.query c.in-Err-TimeBack.before c.in-Err-TimeBack.now (g.K.Sink.taken c.args.out.now)
    c.self.view_is c.in-Err-TimeBack.ensures.unchanged (rw c.in-Err-TimeBack.field-0-is at c.in-Err-TimeBack.ensures.time_back) stands)

pub returns-in-Ok-write_at-clause-engine : goal.returns-in-Ok-write_at-clause-engine
returns-in-Ok-write_at-clause-engine g c = adds c.self.inside.engine c.see.new.self c.self.inside.opened.items c.self.inside.cursors.items c.self.inside.closed c.self.inside.schedule.bases c.args.self.now c.args.event.now c.self.view_is c.in-Ok.ensures.added c.in-Ok.ensures.keys

pub returns-in-Err-clause-engine : goal.returns-in-Err-clause-engine
returns-in-Err-clause-engine g c =
    adds_untold c.args.self.now.engine c.see.new.self c.args.event.now c.in-Err.stop c.stopped.result c.stopped.ensures
    (adds c.self.inside.engine c.see.new.self c.self.inside.opened.items c.self.inside.cursors.items c.self.inside.closed c.self.inside.schedule.bases c.args.self.now c.args.event.now c.self.view_is c.in-Ok.ensures.added c.in-Ok.ensures.keys)

pub returns-in-Err-clause-steps : goal.returns-in-Err-clause-steps
returns-in-Err-clause-steps g c =
    within_untold (session c.see.new.self c.self.inside.opened.items c.self.inside.cursors.items true c.self.inside.schedule.bases) c.args.steps.now c.see.new.steps c.in-Err.stop c.stopped.result c.stopped.ensures c.in-Ok.ensures.steps

pub returns-in-Ok-write_at-clause-costs : goal.returns-in-Ok-write_at-clause-costs
returns-in-Ok-write_at-clause-costs g c = λ machine stands.
    costs_event c.self.inside.engine c.see.new.self c.self.inside.opened.items c.self.inside.cursors.items c.self.inside.closed c.self.inside.schedule.bases c.args.self.now machine c.args.event.now c.args.steps.now c.see.new.steps c.self.view_is c.see.ensures.same c.in-Ok.ensures.stands c.in-Ok.ensures.added c.in-Ok.ensures.keys c.in-Ok.ensures.steps stands

pub returns-in-Err-clause-costs : goal.returns-in-Err-clause-costs
returns-in-Err-clause-costs g c = λ machine stands.
    costs_event c.self.inside.engine c.see.new.self c.self.inside.opened.items c.self.inside.cursors.items c.self.inside.closed c.self.inside.schedule.bases c.args.self.now machine c.args.event.now c.args.steps.now c.see.new.steps c.self.view_is c.see.ensures.same c.in-Ok.ensures.stands c.in-Ok.ensures.added c.in-Ok.ensures.keys c.in-Ok.ensures.steps stands

pub returns-in-Err-TimeBack-clause-costs : goal.returns-in-Err-TimeBack-clause-costs
returns-in-Err-TimeBack-clause-costs g c = λ machine stands.
    costs_refused (command.Event c.args.event.now) c.self.inside.engine c.see.new.self c.self.inside.opened.items c.self.inside.cursors.items c.self.inside.closed c.self.inside.schedule.bases c.args.self.now machine c.args.steps.now c.see.new.steps c.self.view_is c.in-Err-TimeBack.ensures.unchanged (rw c.in-Err-TimeBack.field-0-is at c.in-Err-TimeBack.ensures.no_step)

pub returns-in-Err-Memory-clause-costs : goal.returns-in-Err-Memory-clause-costs
returns-in-Err-Memory-clause-costs g c = λ machine stands.
    costs_want c.self.inside.engine c.see.new.self c.self.inside.opened.items c.self.inside.cursors.items c.self.inside.closed c.self.inside.schedule.bases c.args.self.now machine c.args.event.now c.args.steps.now c.see.new.steps c.self.view_is c.in-Err-Memory.ensures.unchanged (rw c.in-Err-Memory.field-0-is at c.in-Err-Memory.ensures.wanting_steps) stands

pub returns-in-Err-TimeBack-clause-engine : goal.returns-in-Err-TimeBack-clause-engine
returns-in-Err-TimeBack-clause-engine g c = c.in-Err-TimeBack.ensures.unchanged ∙ ap (λ (s : Session). s.engine) c.self.view_is

pub returns-in-Err-TimeBack-clause-steps : goal.returns-in-Err-TimeBack-clause-steps
returns-in-Err-TimeBack-clause-steps g c = rw c.in-Err-TimeBack.field-0-is at c.in-Err-TimeBack.ensures.no_step

pub returns-in-Err-Memory-clause-engine : goal.returns-in-Err-Memory-clause-engine
returns-in-Err-Memory-clause-engine g c = inl (c.in-Err-Memory.ensures.unchanged ∙ ap (λ (s : Session). s.engine) c.self.view_is)
