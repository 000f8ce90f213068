use Rattle.predicate_bits.proofs.Collected.{AreGroupedUpTo}
use Rattle.predicate_bits.proofs.groups.grouped.Given as goal

abbrev pub invariant-loop-k : goal.invariant-loop-k
invariant-loop-k l = AreGroupedUpTo l.k l.list l.groups.items
