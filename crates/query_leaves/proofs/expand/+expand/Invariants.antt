use Rattle.std.proofs.Common.{◌≡◌, ◌∷◌, false, map, take}
use Rattle.query_leaves.specs.Expand.{expand}
use Rattle.query_leaves.specs.Drafts.{tree_of_draft, draft_part, part_of, link_of}
use Rattle.query_leaves.proofs.expand.+expand.Given as goal

abbrev pub invariant-chained-loop-formula : goal.invariant-chained-loop-formula
invariant-chained-loop-formula l = map draft_part l.parts.items ≡ map part_of (take l.formula-index l.formulas)

abbrev pub invariant-linked-loop-link : goal.invariant-linked-loop-link
invariant-linked-loop-link l = map draft_part l.parts.items ≡ (false, tree_of_draft l.fn.first) ∷ map link_of (take l.link-index l.links)

abbrev pub invariant-expanded_each-loop-formula : goal.invariant-expanded_each-loop-formula
invariant-expanded_each-loop-formula l = map tree_of_draft l.drafts.items ≡ map expand (take l.formula-index l.formulas)
