use Rattle.ceql_grammar.proofs.TextRules.{one_reading}
use Rattle.ceql_grammar.proofs.laws.a_text_has_one_reading.Goals as goal

pub returns : goal.returns
returns c = one_reading
