-- Each command is one of the session's own calls.
use Rattle.std.proofs.Common.{List, refl, ap₂}
use Rattle.query_engine.specs.declared.sizes.Size.{Size}
use Rattle.query_engine.specs.Engine.{EngineState}
use Rattle.query_engine.specs.Sizes.{put_by}
use Rattle.command_session.proofs.Costs.{costs_nothing}
use Rattle.command_session.proofs.session.Session.run.Goals as goal

pub returns-in-OpenAt-clause-ended : goal.returns-in-OpenAt-clause-ended
returns-in-OpenAt-clause-ended g c = λ machine stands. rw c.in-OpenAt.is (c.open.ensures.ended machine (g.K.Sink.taken c.args.out.now) stands)

pub returns-in-OpenAt-clause-cause : goal.returns-in-OpenAt-clause-cause
returns-in-OpenAt-clause-cause g c = c.open.ensures.cause (g.K.Sink.faults c.args.out.now)

pub returns-in-Drop-clause-ended : goal.returns-in-Drop-clause-ended
returns-in-Drop-clause-ended g c = λ machine stands. rw c.in-Drop.is (c.drop_cursor.ensures.ended machine (g.K.Sink.taken c.args.out.now) stands)

pub returns-in-Drop-clause-cause : goal.returns-in-Drop-clause-cause
returns-in-Drop-clause-cause g c = c.drop_cursor.ensures.cause (g.K.Sink.faults c.args.out.now)

pub returns-in-Compact-clause-ended : goal.returns-in-Compact-clause-ended
returns-in-Compact-clause-ended g c = λ machine stands. rw c.in-Compact.is (c.compact.ensures.ended machine (g.K.Sink.taken c.args.out.now) stands)

pub returns-in-Compact-clause-cause : goal.returns-in-Compact-clause-cause
returns-in-Compact-clause-cause g c = c.compact.ensures.cause (g.K.Sink.faults c.args.out.now)

pub returns-in-Event-clause-engine : goal.returns-in-Event-clause-engine
returns-in-Event-clause-engine g c = rw c.in-Event.is c.event.ensures.engine

pub returns-in-Event-clause-costs : goal.returns-in-Event-clause-costs
returns-in-Event-clause-costs g c = λ machine stands. rw c.in-Event.is (c.event.ensures.costs machine stands)

pub returns-in-OpenAt-clause-engine : goal.returns-in-OpenAt-clause-engine
returns-in-OpenAt-clause-engine g c = rw c.in-OpenAt.is c.open.ensures.engine

pub returns-in-OpenAt-clause-costs : goal.returns-in-OpenAt-clause-costs
returns-in-OpenAt-clause-costs g c = λ machine stands. rw c.in-OpenAt.is (c.open.ensures.costs machine stands)

pub returns-in-Pull-clause-engine : goal.returns-in-Pull-clause-engine
returns-in-Pull-clause-engine g c = rw c.in-Pull.is c.pull.ensures.engine

pub returns-in-Pull-clause-costs : goal.returns-in-Pull-clause-costs
returns-in-Pull-clause-costs g c = λ machine stands. rw c.in-Pull.is (c.pull.ensures.costs machine stands)

pub returns-in-Drop-clause-engine : goal.returns-in-Drop-clause-engine
returns-in-Drop-clause-engine g c = rw c.in-Drop.is c.drop_cursor.ensures.engine

pub returns-in-Drop-clause-costs : goal.returns-in-Drop-clause-costs
returns-in-Drop-clause-costs g c = λ machine stands.
    costs_nothing c.args.command c.args.self.now machine c.drop_cursor.new.self c.args.steps.now c.args.steps.now refl (ap₂ (λ (e : EngineState) (bases : List Size). put_by e bases) c.drop_cursor.ensures.engine c.drop_cursor.ensures.noted)

pub returns-in-Compact-clause-engine : goal.returns-in-Compact-clause-engine
returns-in-Compact-clause-engine g c = rw c.in-Compact.is c.compact.ensures.engine

pub returns-in-Compact-clause-costs : goal.returns-in-Compact-clause-costs
returns-in-Compact-clause-costs g c = λ machine stands. rw c.in-Compact.is (c.compact.ensures.costs machine stands)
