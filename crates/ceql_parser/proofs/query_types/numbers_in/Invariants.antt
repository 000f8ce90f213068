use Rattle.std.proofs.Common.{map, take}
use Rattle.cel_terms.specs.Answers.{query_types}
use Rattle.ceql_parser.specs.NameSets.{HaveSameNames}
use Rattle.ceql_parser.specs.QueryTypes.{HaveSameNumbers}
use Rattle.ceql_parser.proofs.query_types.numbers_in.Given as goal

abbrev pub invariant-loop-name : goal.invariant-loop-name
invariant-loop-name l = HaveSameNames l.seen (map (λ n. n.text) (take l.name-index l.streams)) × HaveSameNumbers l.numbers.keys (query_types l.schema (take l.name-index l.streams))
