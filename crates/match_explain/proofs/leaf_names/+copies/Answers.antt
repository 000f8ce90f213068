use Rattle.std.proofs.Common.{◌≡◌, ap, sym, subst, ◌∙◌}
use Rattle.std.specs.Prelude.{IfOk, fold}
use Rattle.std.specs.List.{flat_map}
use Rattle.match_explain.specs.LeafNames.{LeafNames, copies}
use Rattle.match_explain.proofs.Copied.{copies_all_is, copies_any_is}
use Rattle.match_explain.proofs.leaf_names.+copies.Goals as goal

pub copies-returns-in-All : goal.copies-returns-in-All
copies-returns-in-All t c =
    subst (λ (ls : LeafNames). IfOk c.copies_of_all.result (λ after. after.items ≡ ls))
    (ap (fold (λ ls f. copies f ls) c.args.leaves.now) c.deref.ensures.value ∙ sym (copies_all_is c.args.leaves.now c.in-All.filters) ∙ sym (ap (λ f. copies f c.args.leaves.now) c.in-All.is))
    c.copies_of_all.ensures

pub copies-returns-in-Any : goal.copies-returns-in-Any
copies-returns-in-Any t c =
    subst (λ (ls : LeafNames). IfOk c.copies_of_any.result (λ after. after.items ≡ ls))
    (ap (flat_map (λ f. copies f c.args.leaves.now)) c.deref-in-Any.ensures.value ∙ sym (copies_any_is c.args.leaves.now c.in-Any.filters) ∙ sym (ap (λ f. copies f c.args.leaves.now) c.in-Any.is))
    c.copies_of_any.ensures
