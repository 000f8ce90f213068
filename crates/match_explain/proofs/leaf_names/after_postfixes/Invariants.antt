use Rattle.std.proofs.Common.{◌≡◌, take}
use Rattle.std.specs.Prelude.{fold}
use Rattle.match_explain.specs.LeafNames.{changed_leaves}
use Rattle.match_explain.proofs.leaf_names.after_postfixes.Given as goal

abbrev pub invariant-loop-postfix : goal.invariant-loop-postfix
invariant-loop-postfix l = l.after.items ≡ fold changed_leaves l.initial.after.items (take l.postfix-index l.postfixes)
