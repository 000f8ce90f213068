use Rattle.std.proofs.Common.{arith}
use Rattle.predicate_bits.proofs.groups.blank.Goals as goal

pub returns-clause-count : goal.returns-clause-count
returns-clause-count c = let n = c.loop-ty.invariant.count in omega arith
