use Rattle.ceql_lexer.proofs.Whole.{parts_whole}
use Rattle.ceql_lexer.proofs.laws.parts_are_the_text.Goals as goal

pub returns : goal.returns
returns c = parts_whole
