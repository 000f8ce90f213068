use Rattle.std.proofs.Common.{◌≡◌, take}
use Rattle.cel_lists.specs.Lists.{in_sequence}
use Rattle.cel_plain.proofs.sequence.in_sequence.Given as goal

abbrev pub invariant-loop-one : goal.invariant-loop-one
invariant-loop-one l = l.found.items ≡ in_sequence l.positions l.tight (take l.one-index l.first) l.second
