use Rattle.std.proofs.Common.{◌≡◌, ◌++◌, take}
use Rattle.cel_plain.proofs.copies.add_copies.Given as goal

abbrev pub invariant-loop-one : goal.invariant-loop-one
invariant-loop-one l = l.into.items ≡ l.initial.into.items ++ take l.one-index l.found
