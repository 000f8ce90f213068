use Rattle.std.proofs.Common.{◌≡◌, ◌+◌, ◌*◌, ◌≤◌, length, map}
use Rattle.ceql_grammar.specs.PartlyRead.{with_front}
use Rattle.ceql_grammar.specs.RuleReaders.{formula, more_links, more_chains}
use Rattle.ceql_grammar.specs.Trees.{formula_tree}
use Rattle.ceql_grammar.specs.LinkViews.{link_view}
use Rattle.ceql_grammar.proofs.formulas.+formula.Given as goal

abbrev pub decreases-base : goal.decreases-base
decreases-base l = length l.tokens.now * 6 + 1

abbrev pub decreases-post : goal.decreases-post
decreases-post l = length l.tokens.now * 6 + 2

abbrev pub decreases-more_links : goal.decreases-more_links
decreases-more_links l = length l.tokens.now * 6

abbrev pub decreases-chain : goal.decreases-chain
decreases-chain l = length l.tokens.now * 6 + 3

abbrev pub decreases-more_chains : goal.decreases-more_chains
decreases-more_chains l = length l.tokens.now * 6

abbrev pub decreases-either : goal.decreases-either
decreases-either l = length l.tokens.now * 6 + 4

abbrev pub decreases-add_formula : goal.decreases-add_formula
decreases-add_formula l = length l.tokens.now * 6 + 5

abbrev pub invariant-more_links-loop-tight : goal.invariant-more_links-loop-tight
invariant-more_links-loop-tight l = (with_front (map link_view l.links.items) (more_links formula l.rest) ≡ with_front (map link_view l.initial.links.items) (more_links formula l.tokens)) × (length l.rest ≤ length l.tokens)

abbrev pub decreases-more_links-loop-tight : goal.decreases-more_links-loop-tight
decreases-more_links-loop-tight l = length l.rest

abbrev pub invariant-more_chains-loop-later : goal.invariant-more_chains-loop-later
invariant-more_chains-loop-later l =
    (with_front (map formula_tree l.members.items) (more_chains formula l.rest) ≡ with_front (map formula_tree l.initial.members.items) (more_chains formula l.tokens))
    × ((length l.rest ≤ length l.tokens) × (length l.initial.members.items ≤ length l.members.items))

abbrev pub decreases-more_chains-loop-later : goal.decreases-more_chains-loop-later
decreases-more_chains-loop-later l = length l.rest
