-- Each is of the stream, with its formula.
use Rattle.std.proofs.Common.{◌∙◌}
use Rattle.command_sample.specs.Queries.{IsFirstFormula, IsSecondFormula}
use Rattle.command_sample.proofs.Formulas.{with_formula}
use Rattle.command_sample.proofs.queries.sample_queries.Goals as goal

pub returns : goal.returns
returns c = (
  c.in_ok-first.first,
  c.in_ok-second.second,
  c.of.ensures ∙ c.in_ok-vec.ensures.items,
  with_formula IsFirstFormula 4 8 c.in_ok-first_formula.field-0 c.in_ok-first.first c.in_ok-first.ensures c.in_ok-first_formula.ensures,
  with_formula IsSecondFormula 5 6 c.in_ok-second_formula.field-0 c.in_ok-second.second c.in_ok-second.ensures c.in_ok-second_formula.ensures,
)
