use Rattle.std.proofs.Common.{ap, sym, ◌∙◌}
use Rattle.cel_terms.specs.Checked.{weight}
use Rattle.ceql_parser.specs.LinksAndCounts.{capped, sum_of, product_of}
use Rattle.ceql_parser.proofs.LeavesCounted.{product_kept, sum_kept, all_weigh, any_weigh}
use Rattle.ceql_parser.proofs.leaf_counts.+weights.Goals as goal

pub product_of-loop-filter-preserved : goal.product_of-loop-filter-preserved
product_of-loop-filter-preserved t c = product_kept c.args.filters.now c.loop-filter.filter-index c.filter-item.result c.loop-filter.product c.weight.result _ c.loop-filter-test.true c.filter-item.is c.loop-filter.invariant c.weight.ensures c.capped_product-product.ensures

pub sum_of-loop-filter-preserved : goal.sum_of-loop-filter-preserved
sum_of-loop-filter-preserved t c = sum_kept weight c.args.filters.now c.loop-filter.filter-index c.filter-item.result c.loop-filter.sum c.weight.result _ c.loop-filter-test.true c.filter-item.is c.loop-filter.invariant c.weight.ensures c.capped_sum-sum.ensures

pub weight-returns-in-All : goal.weight-returns-in-All
weight-returns-in-All t c =
    c.product_of.ensures ∙ ap (λ fs. capped (product_of fs)) c.deref.ensures.value ∙ ap capped (sym (all_weigh c.in-All.filters)) ∙ sym (ap (λ f. capped (weight f)) c.in-All.is)

pub weight-returns-in-Any : goal.weight-returns-in-Any
weight-returns-in-Any t c =
    c.sum_of.ensures ∙ ap (λ fs. capped (sum_of weight fs)) c.deref-in-Any.ensures.value ∙ ap capped (sym (any_weigh c.in-Any.filters)) ∙ sym (ap (λ f. capped (weight f)) c.in-Any.is)
