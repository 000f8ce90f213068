use Rattle.std.proofs.Common.{◌≡◌, take}
use Rattle.match_explain.specs.LeafNames.{changed_leaves}
use Rattle.match_explain.proofs.leaf_names.changed_leaves.Given as goal

abbrev pub invariant-loop-names : goal.invariant-loop-names
invariant-loop-names l = l.after.items ≡ changed_leaves (take l.names-index l.leaves) l.postfix
