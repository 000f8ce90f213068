-- The event comes, and then queries may be compacted.
use Rattle.command_session.proofs.Stepping.{goes_on}
use Rattle.command_session.proofs.Costs.{costs_paid, within_paid}
use Rattle.command_session.proofs.session.Session.event.Goals as goal

pub returns-in-Ok-clause-ended : goal.returns-in-Ok-clause-ended
returns-in-Ok-clause-ended g c = λ machine stands.
    goes_on c.args.event.now c.args.self.now machine c.take_event.new.self c.keep_small.new.self (g.K.Sink.taken c.args.out.now) (g.K.Sink.taken c.take_event.new.out)
    (c.in-Ok.ensures.ended machine stands) c.keep_small.ensures.stands c.keep_small.ensures.closed

pub returns-in-Ok-clause-engine : goal.returns-in-Ok-clause-engine
returns-in-Ok-clause-engine g c = record {
  between = c.take_event.new.self.engine;
  same = c.take_event.ensures.same;
  taken = c.in-Ok.ensures.engine;
  tended = c.keep_small.ensures.tended;
}

pub returns-in-Ok-clause-steps : goal.returns-in-Ok-clause-steps
returns-in-Ok-clause-steps g c = λ machine stands.
    let went = c.in-Ok.ensures.ended machine stands in
    within_paid c.args.event.now c.args.self.now c.take_event.new.self c.keep_small.new.self c.args.steps.now c.take_event.new.steps c.keep_small.new.steps
    c.take_event.ensures.same c.keep_small.ensures.same c.take_event.ensures.noted c.in-Ok.ensures.engine c.keep_small.ensures.tended c.in-Ok.ensures.steps (c.keep_small.ensures.paid went.next went.stands)

pub returns-in-Ok-clause-costs : goal.returns-in-Ok-clause-costs
returns-in-Ok-clause-costs g c = λ machine stands.
    let went = c.in-Ok.ensures.ended machine stands in
    costs_paid c.args.event.now c.args.self.now machine c.take_event.new.self c.keep_small.new.self c.args.steps.now c.take_event.new.steps c.keep_small.new.steps
    (c.take_event.ensures.costs machine stands) (c.keep_small.ensures.paid went.next went.stands)
