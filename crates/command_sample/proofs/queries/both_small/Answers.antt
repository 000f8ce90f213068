-- One filter: all of the two.
use Rattle.std.proofs.Common.{[], ◌∷◌, ap₂, refl, ◌∙◌}
use Rattle.command_sample.proofs.Formulas.{all_of_two}
use Rattle.command_sample.proofs.queries.both_small.Goals as goal

pub returns : goal.returns
returns c = all_of_two c.in_ok-vec.field-0 _ _ _ (c.in_ok-vec.ensures.items ∙ ap₂ (λ x y. x ∷ y ∷ []) c.in_ok-a.ensures c.in_ok-b.ensures) refl
