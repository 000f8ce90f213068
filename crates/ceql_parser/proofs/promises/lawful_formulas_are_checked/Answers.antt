use Rattle.ceql_parser.proofs.TermsChecked.{formula_checked}
use Rattle.ceql_parser.proofs.promises.lawful_formulas_are_checked.Goals as goal

pub returns : goal.returns
returns c = formula_checked
