use Rattle.std.proofs.Common.{◌≡◌}
use Rattle.cel_lists.specs.Lists.{times, up_to}
use Rattle.cel_plain.proofs.sequence.repetitions.Given as goal

abbrev pub invariant-loop-round : goal.invariant-loop-round
invariant-loop-round l = (l.last.items ≡ times l.positions l.tight l.part l.round) × (l.found.items ≡ up_to l.positions l.tight l.part l.round)
