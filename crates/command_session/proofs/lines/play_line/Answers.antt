use Rattle.std.proofs.Common.{refl}
use Rattle.command_session.proofs.LineEnds.{asked_as, command_ended, command_made, command_costs, command_refused, none_made, no_costs, unread_none, command_cause, passed_over, unread, unread_cause}
use Rattle.command_session.proofs.lines.play_line.Goals as goal

pub returns-in-Ok-Some-clause-ended : goal.returns-in-Ok-Some-clause-ended
returns-in-Ok-Some-clause-ended g c = λ machine stands.
    rw c.line_end.ensures (
    command_ended c.args.number c.args.line.now c.in-Ok-Some.command c.args.session.now machine c.run.new.self (g.K.Sink.taken c.args.out.now) (g.K.Sink.taken c.run.new.out) c.run.result
    (asked_as c.args.session.now.engine.schema c.schema.result.now c.args.line.now _ c.schema.ensures (rw c.in-Ok-Some.field-0-is at c.in-Ok-Some.ensures.asked)) (c.run.ensures.ended machine stands))

pub returns-in-Ok-Some-clause-cause : goal.returns-in-Ok-Some-clause-cause
returns-in-Ok-Some-clause-cause g c = rw c.line_end.ensures (command_cause _ _ _ c.run.result c.run.ensures.cause)

pub returns-in-Ok-None-clause-ended : goal.returns-in-Ok-None-clause-ended
returns-in-Ok-None-clause-ended g c = λ machine stands.
    passed_over c.args.session.now.engine.schema c.args.session.now.engine.queries c.args.number c.args.line.now machine c.args.session.now (g.K.Sink.taken c.args.out.now) tt
    (asked_as c.args.session.now.engine.schema c.schema.result.now c.args.line.now _ c.schema.ensures (rw c.in-Ok-None.field-0-is at c.in-Ok-None.ensures.asked)) stands c.requires.going

pub returns-in-Err-clause-ended : goal.returns-in-Err-clause-ended
returns-in-Err-clause-ended g c = λ machine stands. rw c.line_fault.ensures (
    unread c.args.session.now.engine.schema c.schema.result.now c.args.session.now.engine.queries c.args.number c.args.line.now machine c.args.session.now (g.K.Sink.taken c.args.out.now) c.in-Err.stop c.schema.ensures c.in-Err.ensures.asked)

pub returns-in-Err-clause-cause : goal.returns-in-Err-clause-cause
returns-in-Err-clause-cause g c = rw c.line_fault.ensures (unread_cause _ _ c.in-Err.stop)

pub returns-in-Ok-Some-clause-made : goal.returns-in-Ok-Some-clause-made
returns-in-Ok-Some-clause-made g c = rw c.line_end.ensures (
    command_made c.args.number c.in-Ok-Some.command c.args.session.now.engine c.run.new.self _ c.run.result
    (asked_as c.args.session.now.engine.schema c.schema.result.now c.args.line.now _ c.schema.ensures (rw c.in-Ok-Some.field-0-is at c.in-Ok-Some.ensures.asked)) c.run.ensures.engine)

pub returns-in-Ok-None-clause-made : goal.returns-in-Ok-None-clause-made
returns-in-Ok-None-clause-made g c =
    none_made c.args.session.now.engine c.args.session.now _
    (asked_as c.args.session.now.engine.schema c.schema.result.now c.args.line.now _ c.schema.ensures (rw c.in-Ok-None.field-0-is at c.in-Ok-None.ensures.asked)) refl

pub returns-in-Ok-Some-clause-costs : goal.returns-in-Ok-Some-clause-costs
returns-in-Ok-Some-clause-costs g c = λ machine stands.
    command_costs c.in-Ok-Some.command c.args.session.now machine c.run.new.self c.args.steps.now c.run.new.steps _
    (asked_as c.args.session.now.engine.schema c.schema.result.now c.args.line.now _ c.schema.ensures (rw c.in-Ok-Some.field-0-is at c.in-Ok-Some.ensures.asked)) (c.run.ensures.costs machine stands)

pub returns-in-Ok-Some-clause-refused : goal.returns-in-Ok-Some-clause-refused
returns-in-Ok-Some-clause-refused g c = λ machine stands.
    rw c.line_end.ensures (
    command_refused c.args.number c.in-Ok-Some.command c.args.session.now machine c.run.new.self (g.K.Sink.taken c.args.out.now) (g.K.Sink.taken c.run.new.out) c.args.steps.now c.run.new.steps c.run.result
    (c.run.ensures.ended machine stands) (c.run.ensures.steps machine stands))

pub returns-in-Ok-None-clause-costs : goal.returns-in-Ok-None-clause-costs
returns-in-Ok-None-clause-costs g c = λ machine stands. no_costs c.args.session.now machine c.args.steps.now c.args.steps.now _ refl

pub returns-in-Err-clause-costs : goal.returns-in-Err-clause-costs
returns-in-Err-clause-costs g c = λ machine stands. no_costs c.args.session.now machine c.args.steps.now c.args.steps.now _ refl

pub returns-in-Err-clause-refused : goal.returns-in-Err-clause-refused
returns-in-Err-clause-refused g c = λ machine stands. rw c.line_fault.ensures (unread_none c.args.number c.args.steps.now c.in-Err.stop)
