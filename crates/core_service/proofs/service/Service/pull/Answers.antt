-- What was drawn is given.
use Rattle.core_service.proofs.HeldServices.{pulled_both}
use Rattle.core_service.proofs.service.Service.pull.Goals as goal

pub returns-in-Ok-Some : goal.returns-in-Ok-Some
returns-in-Ok-Some g c =
    pulled_both c.args.cursor c.args.self.now c.peek_held.new.self c.advance_held.new.self c.in-Ok-Some.numbers c.advance_held.result
    (rw c.in-Ok-Some.field-0-is at c.in-Ok-Some.ensures) c.advance_held.ensures.advanced c.advance_held.ensures.positions
