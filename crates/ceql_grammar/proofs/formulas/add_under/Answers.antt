use Rattle.std.proofs.Common.{ap, sym, ◌∙◌, map}
use Rattle.std.specs.Prelude.{Ok}
use Rattle.ceql_grammar.specs.Formulas.{under_of}
use Rattle.ceql_grammar.specs.MemberLists.{any_formula_of}
use Rattle.ceql_grammar.specs.RuleForms.{◌>>=◌}
use Rattle.ceql_grammar.specs.Trees.{filter_tree, formula_tree}
use Rattle.ceql_grammar.proofs.InPlaceReading.{added}
use Rattle.ceql_grammar.proofs.formulas.add_under.Goals as goal

pub returns-clause-value : goal.returns-clause-value
returns-clause-value c =
    let joined = any_formula_of (map formula_tree c.args.bases.items) in (
      _,
      (
        added formula_tree c.args.formulas.now.items c.push.new.self.items c.in_ok-under_of.field-0 c.in_ok-push.ensures.items,
        ap (λ o. o >>= λ p. Ok (under_of joined p.0, p.1)) c.in_ok-filters.ensures.value
            ∙ ap (λ f. Ok (f, c.in_ok-filters.rest.now)) (sym (c.in_ok-under_of.ensures ∙ ap (λ f. under_of f (map filter_tree c.in_ok-filters.filters.items)) c.any_formula_of.ensures)),
      ),
    )
