use Rattle.std.proofs.Common.{◌≡◌, take}
use Rattle.std.specs.Prelude.{fold}
use Rattle.query_leaves.specs.Expand.{postfixed}
use Rattle.query_leaves.specs.Drafts.{tree_of_draft}
use Rattle.query_leaves.proofs.expand.postfixed_by_all.Given as goal

abbrev pub invariant-loop-postfix : goal.invariant-loop-postfix
invariant-loop-postfix l = tree_of_draft l.after ≡ fold (λ t p. postfixed p t) (tree_of_draft l.initial.after) (take l.postfix-index l.postfixes)
