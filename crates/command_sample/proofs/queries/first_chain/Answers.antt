-- The chain of its two parts.
use Rattle.std.proofs.Common.{[], ◌∷◌, codes}
use Rattle.cel_terms.specs.declared.Formula.{Of}
use Rattle.cel_terms.specs.declared.Postfix.TheVariants.{Named}
use Rattle.command_sample.specs.Queries.{name_at, IsPostOf}
use Rattle.command_sample.proofs.Formulas.{chain_of_two}
use Rattle.command_sample.proofs.queries.first_chain.Goals as goal

pub returns : goal.returns
returns c =
    chain_of_two (IsPostOf (Of (name_at (codes "A") 4 23)) (Named (name_at (codes "a") 4 28) ∷ [])) (IsPostOf (Of (name_at (codes "B") 4 32)) (Named (name_at (codes "b") 4 37) ∷ []))
    c.in_ok-vec.field-0 c.in_ok-a.a c.in_ok-b.b c.in_ok-vec.ensures.items c.in_ok-a.ensures c.in_ok-b.ensures
