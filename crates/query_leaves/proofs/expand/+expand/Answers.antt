use Rattle.std.proofs.Common.{◌≡◌, ap, ap₂, sym, map, subst, ◌∙◌}
use Rattle.std.specs.Prelude.{IfOk, fold}
use Rattle.query_leaves.specs.LeafTree.{LeafTree, chain_of, linked_to, choice_of}
use Rattle.query_leaves.specs.Expand.{Occurrence, filtered, postfixed, expand}
use Rattle.query_leaves.specs.Drafts.{tree_of_draft, part_of, link_of}
use Rattle.query_leaves.proofs.Drafted as drafted
use Rattle.query_leaves.proofs.Expanded.{chain_is, choices_are, links_are, under_is, postfixed_is}
use Rattle.query_leaves.proofs.expand.+expand.Goals as goal

pub chain-returns : goal.chain-returns
chain-returns t c = drafted.chain_is c.in_ok-chained.field-0 ∙ ap chain_of c.in_ok-chained.ensures

pub linked_chain-returns : goal.linked_chain-returns
linked_chain-returns t c = λ before e.
    drafted.chain_is c.in_ok-linked.field-0
    ∙ ap chain_of c.in_ok-linked.ensures
    ∙ ap (λ first. linked_to first (map link_of c.args.links.now)) (subst (λ r. IfOk r (λ draft. tree_of_draft draft ≡ before)) c.in_ok-first.was e)

pub choice-returns : goal.choice-returns
choice-returns t c = drafted.choices_are c.in_ok-expanded_each.field-0 ∙ ap choice_of c.in_ok-expanded_each.ensures

pub changed_base-returns : goal.changed_base-returns
changed_base-returns t c =
    subst (λ (u : LeafTree Occurrence). IfOk c.postfixed_by_all.result (λ draft. tree_of_draft draft ≡ u))
    (ap (λ before. fold (λ t p. postfixed p t) before c.args.postfixes.now) c.in_ok-draft.ensures)
    c.postfixed_by_all.ensures

pub filtered_base-returns : goal.filtered_base-returns
filtered_base-returns t c =
    subst (λ (u : LeafTree Occurrence). IfOk c.under_all.result (λ draft. tree_of_draft draft ≡ u))
    (ap (λ before. fold (λ t f. filtered f t) before c.args.filters.now) c.in_ok-draft.ensures)
    c.under_all.ensures

pub expand-returns-in-Chain : goal.expand-returns-in-Chain
expand-returns-in-Chain t c =
    subst (λ (u : LeafTree Occurrence). IfOk c.chain.result (λ draft. tree_of_draft draft ≡ u))
    (ap (λ fs. chain_of (map part_of fs)) c.deref.ensures.value ∙ sym (ap expand c.in-Chain.is ∙ chain_is c.in-Chain.parts))
    c.chain.ensures

pub expand-returns-in-Linked : goal.expand-returns-in-Linked
expand-returns-in-Linked t c =
    subst (λ (u : LeafTree Occurrence). IfOk c.linked_chain.result (λ draft. tree_of_draft draft ≡ u))
    (ap₂ (λ f ls. linked_to (expand f) (map link_of ls)) c.deref-in-Linked-2.ensures c.deref-in-Linked.ensures.value
    ∙ sym (ap expand c.in-Linked.is ∙ links_are c.in-Linked.first c.in-Linked.links))
    (c.linked_chain.ensures (expand c.deref-in-Linked-2.result.now) c.expand.ensures)

pub expand-returns-in-Either : goal.expand-returns-in-Either
expand-returns-in-Either t c =
    subst (λ (u : LeafTree Occurrence). IfOk c.choice.result (λ draft. tree_of_draft draft ≡ u))
    (ap (λ fs. choice_of (map expand fs)) c.deref-in-Either.ensures.value ∙ sym (ap expand c.in-Either.is ∙ choices_are c.in-Either.choices))
    c.choice.ensures

pub expand-returns-in-Post : goal.expand-returns-in-Post
expand-returns-in-Post t c =
    subst (λ (u : LeafTree Occurrence). IfOk c.changed_base.result (λ draft. tree_of_draft draft ≡ u))
    (ap₂ (λ f ps. fold (λ t p. postfixed p t) (expand f) ps) c.deref-in-Post.ensures c.deref-in-Post-2.ensures.value
    ∙ sym (postfixed_is (expand c.in-Post.base.value) c.in-Post.postfixes.items) ∙ sym (ap expand c.in-Post.is))
    c.changed_base.ensures

pub expand-returns-in-Under : goal.expand-returns-in-Under
expand-returns-in-Under t c =
    subst (λ (u : LeafTree Occurrence). IfOk c.filtered_base.result (λ draft. tree_of_draft draft ≡ u))
    (ap₂ (λ f cs. fold (λ t f. filtered f t) (expand f) cs) c.deref-in-Under.ensures c.deref-in-Under-2.ensures.value
    ∙ sym (under_is (expand c.in-Under.base.value) c.in-Under.filters.items) ∙ sym (ap expand c.in-Under.is))
    c.filtered_base.ensures
