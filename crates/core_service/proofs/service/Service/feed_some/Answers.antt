-- A line more, or a stop at it.
use Rattle.std.proofs.Common.{◌≡◌, ◌+◌, refl, arith}
use Rattle.core_service.proofs.Quiet.{more_here, answer_here, error_here}
use Rattle.core_service.proofs.service.Service.feed_some.Goals as goal

pub returns-in-Ok-true : goal.returns-in-Ok-true
returns-in-Ok-true g c =
    let is : c.loop-len.used + c.in-Some.len + 1 ≡ c.loop-len.used + (c.in-Some.len + 1) = omega arith in
    answer_here c.args.bytes.now c.loop-len.used c.in-Some.len c.args.self.now c.loop-len.self c.loop-len.invariant c.in-Some.ensures.within c.in-Some.ensures.feed
    (c.loop-len.used + c.in-Some.len + 1) c.feed_next.new.self is (rw c.in-Ok-true.field-0-test at c.in-Ok-true.ensures)

pub loop-len-preserved : goal.loop-len-preserved
loop-len-preserved g c =
    more_here c.args.bytes.now c.loop-len.used c.in-Some.len c.args.self.now c.loop-len.self c.loop-len.invariant c.in-Some.ensures.within c.in-Some.ensures.feed
    (c.loop-len.used + (c.in-Some.len + 1)) c.feed_next.new.self refl (rw c.in-Ok-false.field-0-test at c.in-Ok-false.ensures)

pub returns-in-Err : goal.returns-in-Err
returns-in-Err g c =
    let here = error_here c.args.bytes.now c.loop-len.used c.in-Some.len c.args.self.now c.loop-len.self c.loop-len.invariant c.in-Some.ensures.within c.in-Some.ensures.feed
    c.feed_next.new.self c.in-Err.stop c.in-Err.ensures in
    rw c.some_stop.ensures here
