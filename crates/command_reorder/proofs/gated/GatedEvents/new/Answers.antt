use Rattle.std.proofs.Common.{ℕ, List, length, ap, arith}
use Rattle.stream_schema.specs.declared.Event.{Event}
use Rattle.event_run.proofs.Given.{room_within}
use Rattle.command_reorder.proofs.gated.GatedEvents.new.Goals as goal

pub returns-clause-room : goal.returns-clause-room
returns-clause-room c =
    let within = room_within c.in-Ok.lines c.in-Ok.ensures.given in
    let budget = c.in-Ok.ensures.budget in
    let none = ap (λ (l : List (ℕ × Event)). length l) c.in-Ok-new.ensures.blank.3 in
    let range = c.ranges.most_bytes.fits in
    omega (arith, within, budget, none, range)
