use Rattle.std.proofs.Common.{◌≡◌, ap, ap₂, sym, subst, ◌∙◌}
use Rattle.std.specs.Prelude.{IfOk}
use Rattle.cel_terms.specs.Meaning.{only_names}
use Rattle.query_leaves.specs.LeafTree.{LeafTree}
use Rattle.query_leaves.specs.Expand.{Occurrence, at_leaves, rename_leaf, expand, selected_tree}
use Rattle.query_leaves.specs.Drafts.{tree_of_draft}
use Rattle.query_leaves.proofs.expand.tree_of.Goals as goal

pub returns-in-Some : goal.returns-in-Some
returns-in-Some c =
    subst (λ (u : LeafTree Occurrence). IfOk c.changed.result (λ draft. tree_of_draft draft ≡ u))
    (ap₂ (λ names tree. at_leaves (rename_leaf (only_names names)) tree) c.as_slice.ensures c.in_ok-draft.ensures
    ∙ sym (ap (λ s. selected_tree s (expand c.args.query.now.formula)) c.in-Some.is))
    c.changed.ensures
