use Rattle.std.proofs.Common.{sym, ap, ◌∙◌, map}
use Rattle.std.specs.List.{list_any}
use Rattle.std.specs.Vec.{vec_len}
use Rattle.std.proofs.lemmas.Bool.{eqb-false}
use Rattle.ceql_grammar.specs.Trees.{formula_tree, linked, links, chain, formulas}
use Rattle.ceql_grammar.specs.LinkViews.{link_view, tight_of}
use Rattle.ceql_grammar.proofs.JoinedTerms.{linked_is, linked_many, chain_is, chain_many}
use Rattle.ceql_grammar.proofs.formulas.chain_tree.Goals as goal

pub returns-in_ok-new : goal.returns-in_ok-new
returns-in_ok-new c =
    linked_is c.in_ok-new.field-0 c.args.links ∙ ap (λ f. linked (formula_tree f) (links (map link_view c.args.links.items))) c.in_ok-new.ensures.ok
    ∙ linked_many (formula_tree c.args.first) c.args.links.items (ap (list_any tight_of) (sym c.as_slice.ensures.value) ∙ sym c.has_tight.ensures ∙ c.if-has_tight.true)

pub returns-in_ok-untied : goal.returns-in_ok-untied
returns-in_ok-untied c =
    chain_is c.in_ok-untied.field-0 ∙ ap (λ fs. chain (formulas (map formula_tree fs))) c.in_ok-untied.ensures
    ∙ chain_many c.args.first c.args.links.items (λ e. eqb-false (vec_len c.args.links) 0 (sym c.if-is_empty.ensures) (c.args.links.ok.0 ∙ e)) (ap (list_any tight_of) (sym c.as_slice.ensures.value) ∙ sym c.has_tight.ensures ∙ c.if-has_tight.false)
