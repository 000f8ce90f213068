-- The event of the line was taken.
use Rattle.std.proofs.Common.{◌≡◌, Some, Ok}
use Rattle.event_reader.specs.Events.{event_of_line}
use Rattle.core_service.proofs.service.give_line.Goals as goal

pub returns-in-Ok-clause-given : goal.returns-in-Ok-clause-given
returns-in-Ok-clause-given g c =
    let told = rw c.in-Ok-true.field-0-test at c.in-Ok-true.ensures.event in
    let schema = c.schema.ensures in
    let event = c.event.ensures in
    let is : event_of_line c.args.engine.now.schema c.args.line.now ≡ Ok (Some c.event.result.now) = cc in (
      record {
        event = c.event.result.now;
        read = is;
        same = c.give_event.ensures.same;
        in_time = λ events stands. (c.in-Ok.ensures.took events stands).1;
        stands = λ events stands. (c.in-Ok.ensures.took events stands).0;
        count = c.in-Ok.ensures.counted;
      },
      c.in-Ok.ensures.cursors,
    )
