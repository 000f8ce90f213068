use Rattle.std.proofs.Common.{ap, ap₂, sym, ◌∙◌, ◌+◌, ◌*◌}
use Rattle.cel_terms.specs.Checked.{leaf_count}
use Rattle.ceql_parser.specs.LinksAndCounts.{capped, sum_of, product_of, link_leaves}
use Rattle.ceql_parser.proofs.LeavesCounted.{capped_sum, capped_product, sum_kept, chain_leaves, choice_leaves, linked_leaves, times_is}
use Rattle.ceql_parser.proofs.leaf_counts.+leaves.Goals as goal

pub leaves_of-loop-formula-preserved : goal.leaves_of-loop-formula-preserved
leaves_of-loop-formula-preserved t c = sum_kept leaf_count c.args.formulas.now c.loop-formula.formula-index c.formula-item.result c.loop-formula.sum c.leaf_count.result _ c.loop-formula-test.true c.formula-item.is c.loop-formula.invariant c.leaf_count.ensures c.capped_sum-sum.ensures

pub leaves_of_links-loop-link-preserved : goal.leaves_of_links-loop-link-preserved
leaves_of_links-loop-link-preserved t c = sum_kept link_leaves c.args.links.now c.loop-link.link-index c.link-item.result c.loop-link.sum c.leaf_count.result _ c.loop-link-test.true c.link-item.is c.loop-link.invariant c.leaf_count.ensures c.capped_sum-sum.ensures

pub leaf_count-returns-in-Chain : goal.leaf_count-returns-in-Chain
leaf_count-returns-in-Chain t c =
    c.leaves_of.ensures ∙ ap (λ fs. capped (sum_of leaf_count fs)) c.deref.ensures.value ∙ ap capped (sym (chain_leaves c.in-Chain.parts)) ∙ sym (ap (λ f. capped (leaf_count f)) c.in-Chain.is)

pub leaf_count-returns-in-Either : goal.leaf_count-returns-in-Either
leaf_count-returns-in-Either t c =
    c.leaves_of-in-Either.ensures ∙ ap (λ fs. capped (sum_of leaf_count fs)) c.deref-in-Either.ensures.value ∙ ap capped (sym (choice_leaves c.in-Either.choices)) ∙ sym (ap (λ f. capped (leaf_count f)) c.in-Either.is)

pub leaf_count-returns-in-Linked : goal.leaf_count-returns-in-Linked
leaf_count-returns-in-Linked t c =
    c.capped_sum.ensures
    ∙ ap₂ (λ a b. capped (a + b)) (c.leaf_count.ensures ∙ ap (λ f. capped (leaf_count f)) c.deref-in-Linked.ensures) (c.leaves_of_links.ensures ∙ ap (λ ls. capped (sum_of link_leaves ls)) c.deref-in-Linked-2.ensures.value)
    ∙ capped_sum (leaf_count c.in-Linked.first.value) (sum_of link_leaves c.in-Linked.links.items)
    ∙ ap capped (sym (linked_leaves c.in-Linked.first c.in-Linked.links)) ∙ sym (ap (λ f. capped (leaf_count f)) c.in-Linked.is)

pub leaf_count-returns-in-Under : goal.leaf_count-returns-in-Under
leaf_count-returns-in-Under t c =
    c.capped_product.ensures
    ∙ ap₂ (λ a b. capped (a * b)) (c.leaf_count-in-Under.ensures ∙ ap (λ f. capped (leaf_count f)) c.deref-in-Under.ensures) (c.product_of.ensures ∙ ap (λ fs. capped (product_of fs)) c.deref-in-Under-2.ensures.value)
    ∙ capped_product (leaf_count c.in-Under.base.value) (product_of c.in-Under.filters.items)
    ∙ ap capped (sym (times_is (leaf_count c.in-Under.base.value) c.in-Under.filters.items)) ∙ sym (ap (λ f. capped (leaf_count f)) c.in-Under.is)
