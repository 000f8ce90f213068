use Rattle.std.proofs.Common.{arith, refl, []}
use Rattle.event_update.proofs.Finding.{distinct_none}
use Rattle.event_update.proofs.staging.Stage.new.Goals as goal

pub invariant_of-result : goal.invariant_of-result
invariant_of-result c = (omega arith, distinct_none [] refl)
