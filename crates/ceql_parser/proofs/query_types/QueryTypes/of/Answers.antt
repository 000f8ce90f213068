use Rattle.cel_terms.specs.Answers.{query_types}
use Rattle.ceql_parser.proofs.TypeSets.{types_same}
use Rattle.ceql_parser.proofs.query_types.QueryTypes.of.Goals as goal

pub returns : goal.returns
returns c = types_same c.args.schema.now c.in_ok-numbers.numbers.keys (query_types c.args.schema.now c.args.streams.now) c.in_ok-numbers.ensures
