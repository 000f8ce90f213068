-- The lines so far were quiet.
use Rattle.std.proofs.Common.{◌-◌, length}
use Rattle.core_service.proofs.Quiet.{TookQuiet}
use Rattle.core_service.proofs.service.Service.feed_some.Given as goal

abbrev pub invariant-loop-len : goal.invariant-loop-len
invariant-loop-len g l = TookQuiet l.bytes l.used l.fn.self l.self

abbrev pub decreases-loop-len : goal.decreases-loop-len
decreases-loop-len g l = length l.bytes - l.used
