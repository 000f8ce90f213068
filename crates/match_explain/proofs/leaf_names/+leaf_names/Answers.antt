use Rattle.std.proofs.Common.{◌≡◌, ap, sym, subst, ◌∙◌, ◌++◌}
use Rattle.std.specs.Prelude.{IfOk}
use Rattle.match_explain.specs.LeafNames.{LeafNames, leaf_names, leaf_names_listed, leaf_names_linked}
use Rattle.match_explain.proofs.Copied.{chain_is, choices_are, links_are}
use Rattle.match_explain.proofs.leaf_names.+leaf_names.Goals as goal

pub leaf_names-returns-in-Chain : goal.leaf_names-returns-in-Chain
leaf_names-returns-in-Chain t c =
    subst (λ (ls : LeafNames). IfOk c.of_all.result (λ leaves. leaves.items ≡ ls))
    (ap leaf_names_listed c.deref.ensures.value ∙ sym (chain_is c.in-Chain.parts) ∙ sym (ap leaf_names c.in-Chain.is))
    c.of_all.ensures

pub leaf_names-returns-in_ok-first-in-Linked : goal.leaf_names-returns-in_ok-first-in-Linked
leaf_names-returns-in_ok-first-in-Linked t c =
    subst (λ (ls : LeafNames). IfOk c.linked.result (λ leaves. leaves.items ≡ ls))
    (ap (λ ls. ls ++ leaf_names_linked c.deref-in-Linked-2.result.now) (c.in_ok-first-in-Linked.ensures ∙ ap leaf_names c.deref-in-Linked.ensures)
    ∙ ap (λ ls. leaf_names c.in-Linked.first.value ++ leaf_names_linked ls) c.deref-in-Linked-2.ensures.value
    ∙ sym (links_are c.in-Linked.first c.in-Linked.links)
    ∙ sym (ap leaf_names c.in-Linked.is))
    c.linked.ensures

pub leaf_names-returns-in-Either : goal.leaf_names-returns-in-Either
leaf_names-returns-in-Either t c =
    subst (λ (ls : LeafNames). IfOk c.of_all-in-Either.result (λ leaves. leaves.items ≡ ls))
    (ap leaf_names_listed c.deref-in-Either.ensures.value ∙ sym (choices_are c.in-Either.choices) ∙ sym (ap leaf_names c.in-Either.is))
    c.of_all-in-Either.ensures
