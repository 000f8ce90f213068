use Rattle.std.proofs.Common.{◌≡◌, ◌∷◌, take}
use Rattle.match_explain.proofs.leaf_names.with_name.Given as goal

abbrev pub invariant-loop-other : goal.invariant-loop-other
invariant-loop-other l = l.after.items ≡ l.name.text ∷ take l.other-index l.names
