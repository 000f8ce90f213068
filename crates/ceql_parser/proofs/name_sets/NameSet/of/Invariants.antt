use Rattle.std.proofs.Common.{map, take}
use Rattle.ceql_parser.specs.NameSets.{HaveSameNames}
use Rattle.ceql_parser.proofs.name_sets.NameSet.of.Given as goal

abbrev pub invariant-loop-name : goal.invariant-loop-name
invariant-loop-name l = HaveSameNames l.set (map (λ n. n.text) (take l.name-index l.names))
