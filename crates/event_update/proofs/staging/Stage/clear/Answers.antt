use Rattle.std.proofs.Common.{arith, refl, []}
use Rattle.event_update.proofs.Finding.{distinct_none}
use Rattle.event_update.proofs.staging.Stage.clear.Goals as goal

pub invariant_of-self : goal.invariant_of-self
invariant_of-self c = (omega arith, distinct_none [] refl)
