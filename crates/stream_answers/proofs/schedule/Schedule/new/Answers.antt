use Rattle.std.proofs.Common.{arith}
use Rattle.query_engine.proofs.SmallSizes.{nothing_is_put_by}
use Rattle.stream_answers.proofs.schedule.Schedule.new.Goals as goal

pub returns-in_ok-bases-in-None-clause-steps : goal.returns-in_ok-bases-in-None-clause-steps
returns-in_ok-bases-in-None-clause-steps g c = λ events most stands meet few.
    let none = nothing_is_put_by c.begin.new.engine c.in_ok-bases-in-None.bases.items c.in_ok-bases-in-None.ensures.sizes in
    let paid = c.begin.ensures.steps events most stands meet few in
    rw c.in-None.is (omega (arith, none, paid))
