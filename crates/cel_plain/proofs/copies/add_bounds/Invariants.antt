use Rattle.std.proofs.Common.{◌≡◌, ◌++◌, take}
use Rattle.cel_plain.proofs.copies.add_bounds.Given as goal

abbrev pub invariant-loop-bound : goal.invariant-loop-bound
invariant-loop-bound l = l.into.items ≡ l.initial.into.items ++ take l.bound-index l.bounds
