use Rattle.std.proofs.Common.{◌≡◌, ◌+◌, ◌^◌, ◌<◌, ◌≤◌, arith}
use Rattle.event_run.proofs.Given.{room_within}
use Rattle.engine_tests.proofs.tests.runs.run_over.Goals as goal

pub take_all-stop-requires-clause-counted : goal.take_all-stop-requires-clause-counted
take_all-stop-requires-clause-counted g c =
    let none = c.requires.fresh in
    let within = room_within _ c.in-Ok.ensures.given in
    let budget = c.in-Ok.ensures.budget in
    let range = c.ranges.most_bytes in
    omega arith
