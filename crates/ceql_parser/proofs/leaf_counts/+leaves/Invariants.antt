use Rattle.std.proofs.Common.{◌≡◌, take}
use Rattle.cel_terms.specs.Checked.{leaf_count}
use Rattle.ceql_parser.specs.LinksAndCounts.{capped, sum_of, link_leaves}
use Rattle.ceql_parser.proofs.leaf_counts.+leaves.Given as goal

abbrev pub invariant-leaves_of-loop-formula : goal.invariant-leaves_of-loop-formula
invariant-leaves_of-loop-formula l = l.sum ≡ capped (sum_of leaf_count (take l.formula-index l.formulas))

abbrev pub invariant-leaves_of_links-loop-link : goal.invariant-leaves_of_links-loop-link
invariant-leaves_of_links-loop-link l = l.sum ≡ capped (sum_of link_leaves (take l.link-index l.links))
