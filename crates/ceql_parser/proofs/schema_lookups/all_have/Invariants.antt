use Rattle.std.proofs.Common.{◌≡◌, true, take}
use Rattle.std.specs.Prelude.{slice_get}
use Rattle.std.specs.List.{list_all}
use Rattle.std.specs.Option.{option_map_or}
use Rattle.ceql_parser.specs.TypesAsked.{has_attr}
use Rattle.ceql_parser.specs.WantedKinds.{serves}
use Rattle.ceql_parser.proofs.schema_lookups.all_have.Given as goal

abbrev pub invariant-loop-number : goal.invariant-loop-number
invariant-loop-number l = list_all (λ n. option_map_or (has_attr l.name (serves l.wanted)) (slice_get l.schema.types n) true) (take l.number-index l.numbers) ≡ true
