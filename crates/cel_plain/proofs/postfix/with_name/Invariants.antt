use Rattle.std.proofs.Common.{◌≡◌, ◌∷◌, take}
use Rattle.cel_plain.proofs.postfix.with_name.Given as goal

abbrev pub invariant-loop-other : goal.invariant-loop-other
invariant-loop-other l = l.after.items ≡ l.name ∷ take l.other-index l.names
