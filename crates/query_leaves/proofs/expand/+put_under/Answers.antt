use Rattle.std.proofs.Common.{◌≡◌, ap, sym, subst, ◌∙◌, map}
use Rattle.std.specs.Prelude.{OnOk, fold}
use Rattle.query_leaves.specs.LeafTree.{LeafTree, choice_of}
use Rattle.query_leaves.specs.Expand.{Occurrence, filtered}
use Rattle.query_leaves.specs.Drafts.{tree_of_draft}
use Rattle.query_leaves.proofs.Drafted.{choices_are}
use Rattle.query_leaves.proofs.Expanded.{all_is, any_is}
use Rattle.query_leaves.proofs.expand.+put_under.Goals as goal

pub put_under-returns-in-All : goal.put_under-returns-in-All
put_under-returns-in-All t c =
    let tree = tree_of_draft c.args.draft.now in
    subst (λ (u : LeafTree Occurrence). OnOk c.put_under_all.result (tree_of_draft c.put_under_all.new.draft ≡ u))
    (ap (fold (λ t f. filtered f t) tree) c.deref.ensures.value ∙ sym (all_is tree c.in-All.filters) ∙ sym (ap (λ f. filtered f tree) c.in-All.is))
    c.put_under_all.ensures

pub put_under-returns-in-Any : goal.put_under-returns-in-Any
put_under-returns-in-Any t c =
    let tree = tree_of_draft c.args.draft.now in
    subst (λ (u : LeafTree Occurrence). OnOk c.put_under_any.result (tree_of_draft c.put_under_any.new.draft ≡ u))
    (ap (λ fs. choice_of (map (λ f. filtered f tree) fs)) c.deref-in-Any.ensures.value ∙ sym (any_is tree c.in-Any.filters) ∙ sym (ap (λ f. filtered f tree) c.in-Any.is))
    c.put_under_any.ensures

pub put_under-returns-in-On : goal.put_under-returns-in-On
put_under-returns-in-On t c =
    let tree = tree_of_draft c.args.draft.now in
    subst (λ (u : LeafTree Occurrence). OnOk c.change_leaves.result (tree_of_draft c.change_leaves.new.draft ≡ u))
    (sym (ap (λ f. filtered f tree) c.in-On.is))
    c.change_leaves.ensures

pub put_under_any-returns : goal.put_under_any-returns
put_under_any-returns t c = choices_are c.in_ok-copies.copies ∙ ap choice_of c.in_ok-copies.ensures
