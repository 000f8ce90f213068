-- The chain of its two parts.
use Rattle.std.proofs.Common.{◌≡◌, [], ◌∷◌, codes, subst, ap}
use Rattle.cel_terms.specs.declared.Formula.{Of}
use Rattle.cel_terms.specs.declared.Postfix.TheVariants.{Plus}
use Rattle.command_sample.specs.Queries.{name_at, IsPostOf}
use Rattle.command_sample.proofs.Formulas.{chain_of_two}
use Rattle.command_sample.proofs.queries.second_formula.Goals as goal

pub returns : goal.returns
returns c =
    chain_of_two (IsPostOf (Of (name_at (codes "A") 5 23)) (Plus ∷ [])) (λ g. g ≡ Of (name_at (codes "B") 5 28)) c.in_ok-vec.field-0 c.in_ok-a.a (Of c.in_ok-name_at-2.field-0)
    c.in_ok-vec.ensures.items (subst (λ n. IsPostOf (Of n) (Plus ∷ []) c.in_ok-a.a) c.in_ok-name_at.ensures c.in_ok-a.ensures) (ap (λ n. Of n) c.in_ok-name_at-2.ensures)
