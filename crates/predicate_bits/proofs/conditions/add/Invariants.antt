use Rattle.predicate_bits.proofs.Filled.{IsFilledUpTo}
use Rattle.predicate_bits.proofs.conditions.add.Given as goal

abbrev pub invariant-loop-number : goal.invariant-loop-number
invariant-loop-number l = IsFilledUpTo l.number-index l.fn.list l.fn.event l.fn.numbers l.into
