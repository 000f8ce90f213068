use Rattle.std.proofs.Common.{◌≡◌, map, take}
use Rattle.std.specs.Prelude.{fold}
use Rattle.query_leaves.specs.Expand.{filtered}
use Rattle.query_leaves.specs.Drafts.{tree_of_draft}
use Rattle.query_leaves.proofs.expand.+put_under.Given as goal

abbrev pub invariant-put_under_all-loop-filter : goal.invariant-put_under_all-loop-filter
invariant-put_under_all-loop-filter l = tree_of_draft l.draft ≡ fold (λ t c. filtered c t) (tree_of_draft l.fn.draft) (take l.filter-index l.filters)

abbrev pub invariant-copies_under-loop-filter : goal.invariant-copies_under-loop-filter
invariant-copies_under-loop-filter l = map tree_of_draft l.copies.items ≡ map (λ c. filtered c (tree_of_draft l.draft)) (take l.filter-index l.filters)
