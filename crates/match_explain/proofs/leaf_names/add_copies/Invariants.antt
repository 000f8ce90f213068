use Rattle.std.proofs.Common.{◌≡◌, ◌++◌, take}
use Rattle.match_explain.proofs.leaf_names.add_copies.Given as goal

abbrev pub invariant-loop-names : goal.invariant-loop-names
invariant-loop-names l = l.into.items ≡ l.initial.into.items ++ take l.names-index l.leaves
