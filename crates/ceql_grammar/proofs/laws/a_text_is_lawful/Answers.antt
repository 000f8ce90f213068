use Rattle.ceql_grammar.proofs.LawfulRules.{text_lawful}
use Rattle.ceql_grammar.proofs.laws.a_text_is_lawful.Goals as goal

pub returns : goal.returns
returns c = text_lawful
