use Rattle.std.proofs.Common.{ap, sym, ◌∙◌}
use Rattle.query_leaves.specs.Expand.{at_leaves}
use Rattle.query_leaves.specs.Changes.{change_leaf, change_all}
use Rattle.query_leaves.specs.Drafts.{tree_of_draft}
use Rattle.query_leaves.proofs.Above.{one_more_change}
use Rattle.query_leaves.proofs.draft.changed.Goals as goal

pub returns-in_ok-with-in-Changed : goal.returns-in_ok-with-in-Changed
returns-in_ok-with-in-Changed c =
    let tree = tree_of_draft c.in-Changed.part.value in
    ap (λ cs. at_leaves (change_all cs) tree) c.in_ok-with-in-Changed.ensures
    ∙ one_more_change c.in-Changed.changes c.args.change tree
    ∙ sym (ap (λ d. at_leaves (change_leaf c.args.change) (tree_of_draft d)) c.in-Changed.is)
