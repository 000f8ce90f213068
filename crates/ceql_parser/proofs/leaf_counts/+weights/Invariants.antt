use Rattle.std.proofs.Common.{◌≡◌, take}
use Rattle.cel_terms.specs.Checked.{weight}
use Rattle.ceql_parser.specs.LinksAndCounts.{capped, sum_of, product_of}
use Rattle.ceql_parser.proofs.leaf_counts.+weights.Given as goal

abbrev pub invariant-product_of-loop-filter : goal.invariant-product_of-loop-filter
invariant-product_of-loop-filter l = l.product ≡ capped (product_of (take l.filter-index l.filters))

abbrev pub invariant-sum_of-loop-filter : goal.invariant-sum_of-loop-filter
invariant-sum_of-loop-filter l = l.sum ≡ capped (sum_of weight (take l.filter-index l.filters))
