use Rattle.std.proofs.Common.{◌∙◌}
use Rattle.ceql_lexer.proofs.Strings.{utf8_test}
use Rattle.ceql_lexer.proofs.quotes.is_utf8.Goals as goal

pub returns : goal.returns
returns c = c.is_ok.ensures.value ∙ utf8_test c.from_utf8.result _ _ c.args.bytes.now c.from_utf8.ensures.cases
