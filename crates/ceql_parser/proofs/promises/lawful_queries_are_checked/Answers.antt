use Rattle.ceql_parser.proofs.QueriesChecked.{queries_checked}
use Rattle.ceql_parser.proofs.promises.lawful_queries_are_checked.Goals as goal

pub returns : goal.returns
returns c = queries_checked
