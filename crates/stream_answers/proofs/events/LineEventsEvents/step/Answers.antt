use Rattle.stream_answers.proofs.LineSteps.{takes_one, takes_none, fails, wants}
use Rattle.stream_answers.proofs.events.LineEventsEvents.step.Goals as goal

pub returns-in-Ok-Event-clause-took : goal.returns-in-Ok-Event-clause-took
returns-in-Ok-Event-clause-took g c = λ earlier events stands.
    takes_one earlier _ _ c.args.self.now.lines c.take_event.new.lines (g.Q.Source.left c.args.source.now) (g.Q.Source.left c.take_event.new.source) c.take_event.ensures.budget _ _ events ((rw c.in-Ok-Event.field-0-is at c.in-Ok-Event.ensures.took) earlier events stands)

pub returns-in-Ok-End-clause-took : goal.returns-in-Ok-End-clause-took
returns-in-Ok-End-clause-took g c = λ earlier events stands.
    takes_none earlier _ _ c.args.self.now.lines c.take_event.new.lines (g.Q.Source.left c.args.source.now) (g.Q.Source.left c.take_event.new.source) c.take_event.ensures.budget c.args.engine.now c.take_event.new.engine events ((rw c.in-Ok-End.field-0-is at c.in-Ok-End.ensures.took) earlier events stands)

pub returns-in-Err-clause-took : goal.returns-in-Err-clause-took
returns-in-Err-clause-took g c = λ earlier events stands.
    fails earlier _ _ c.args.self.now.lines c.take_event.new.lines (g.Q.Source.left c.args.source.now) (g.Q.Source.left c.take_event.new.source) c.take_event.ensures.budget c.args.engine.now c.take_event.new.engine events c.in-Err.stop (c.in-Err.ensures.took earlier events stands)

pub returns-in-Err-clause-wanting_steps : goal.returns-in-Err-clause-wanting_steps
returns-in-Err-clause-wanting_steps g c = λ earlier events stands.
    wants earlier _ _ c.args.self.now.lines c.take_event.new.lines (g.Q.Source.left c.args.source.now) (g.Q.Source.left c.take_event.new.source) c.take_event.ensures.budget c.args.engine.now c.take_event.new.engine events c.in-Err.stop _ _ (c.in-Err.ensures.wanting_steps earlier events stands)
