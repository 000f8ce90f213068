use Rattle.std.proofs.Common.{ap}
use Rattle.std.specs.Prelude.{Ok}
use Rattle.cel_terms.specs.declared.Formula.{Of}
use Rattle.ceql_grammar.specs.RuleForms.{◌>>=◌}
use Rattle.ceql_grammar.specs.Trees.{of_type, formula_tree}
use Rattle.ceql_grammar.proofs.InPlaceReading.{added}
use Rattle.ceql_grammar.proofs.formulas.add_type.Goals as goal

pub returns-clause-value : goal.returns-clause-value
returns-clause-value c =
    (_, (added formula_tree c.args.formulas.now.items c.push.new.self.items (Of c.in_ok-name.name) c.in_ok-push.ensures.items, ap (λ o. o >>= λ p. Ok (of_type p.0, p.1)) c.in_ok-name.ensures.value))
