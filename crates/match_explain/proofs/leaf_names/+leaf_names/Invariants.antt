use Rattle.std.proofs.Common.{◌≡◌, ◌++◌, take}
use Rattle.match_explain.specs.LeafNames.{leaf_names_listed, leaf_names_linked}
use Rattle.match_explain.proofs.leaf_names.+leaf_names.Given as goal

abbrev pub invariant-of_all-loop-formula : goal.invariant-of_all-loop-formula
invariant-of_all-loop-formula l = l.leaves.items ≡ leaf_names_listed (take l.formula-index l.formulas)

abbrev pub invariant-linked-loop-link : goal.invariant-linked-loop-link
invariant-linked-loop-link l = l.leaves.items ≡ l.initial.leaves.items ++ leaf_names_linked (take l.link-index l.links)
