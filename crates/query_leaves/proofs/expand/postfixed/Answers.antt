use Rattle.std.proofs.Common.{◌≡◌, ap, sym, subst, ◌∙◌}
use Rattle.std.specs.Prelude.{IfOk}
use Rattle.cel_terms.specs.Meaning.{only_names}
use Rattle.query_leaves.specs.LeafTree.{LeafTree}
use Rattle.query_leaves.specs.Expand.{Occurrence, at_leaves, rename_leaf, postfixed}
use Rattle.query_leaves.specs.Drafts.{tree_of_draft}
use Rattle.query_leaves.proofs.expand.postfixed.Goals as goal

pub returns-in-Keep : goal.returns-in-Keep
returns-in-Keep c =
    let tree = tree_of_draft c.args.draft in
    subst (λ (u : LeafTree Occurrence). IfOk c.changed-in-Keep.result (λ after. tree_of_draft after ≡ u))
    (ap (λ names. at_leaves (rename_leaf (only_names names)) tree) c.as_slice.ensures ∙ sym (ap (λ p. postfixed p tree) c.in-Keep.is))
    c.changed-in-Keep.ensures
