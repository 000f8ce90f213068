-- The event of the line was taken.
use Rattle.std.proofs.Common.{arith}
use Rattle.core_service.proofs.LinesFed.{fed_event}
use Rattle.core_service.proofs.service.Service.feed_line.Goals as goal

pub returns-in-Ok-Event-clause-fed : goal.returns-in-Ok-Event-clause-fed
returns-in-Ok-Event-clause-fed g c =
    let s = c.self.inside in
    fed_event c.args.line.now s.engine s.lines s.answers s.held c.args.self.now c.self.view_is c.give_line.new.engine c.begin.new.self
    c.self.invariant.3 c.requires (omega arith) (rw c.in-Ok-Event.field-0-is at c.in-Ok-Event.ensures.given) c.begin.ensures
