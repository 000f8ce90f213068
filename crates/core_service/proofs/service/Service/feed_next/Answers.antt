-- The event was taken.
use Rattle.std.proofs.Common.{ap}
use Rattle.core_service.specs.Services.{ServiceState}
use Rattle.core_service.proofs.Quiet.{event_next}
use Rattle.core_service.proofs.service.Service.feed_next.Goals as goal

pub returns : goal.returns
returns g c =
    event_next c.args.line.now c.args.self.now c.feed_line.new.self c.self.inside.engine c.may_answer.result (ap (λ (s : ServiceState). s.engine) c.self.view_is)
    (rw c.in-Ok-Event.field-0-is at c.in-Ok-Event.ensures.fed) c.may_answer.ensures
