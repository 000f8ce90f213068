use Rattle.cer_base.proofs.DigitLemmas.{out_of_range}
use Rattle.ceql_lexer.proofs.numbers.is_in_range.Goals as goal

pub returns-in-None : goal.returns-in-None
returns-in-None c = rw (← c.farthest-limit.ensures) (out_of_range c.farthest-limit.result _ c.args.decimals.now c.in-None.ensures)
