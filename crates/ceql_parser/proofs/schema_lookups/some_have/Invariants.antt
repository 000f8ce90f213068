use Rattle.std.proofs.Common.{◌≡◌, false, take}
use Rattle.std.specs.Prelude.{slice_get}
use Rattle.std.specs.List.{list_any}
use Rattle.std.specs.Option.{option_map_or}
use Rattle.ceql_parser.specs.TypesAsked.{has_attr}
use Rattle.ceql_parser.specs.WantedKinds.{serves}
use Rattle.ceql_parser.proofs.schema_lookups.some_have.Given as goal

abbrev pub invariant-loop-number : goal.invariant-loop-number
invariant-loop-number l = list_any (λ n. option_map_or (has_attr l.name (serves l.wanted)) (slice_get l.schema.types n) false) (take l.number-index l.numbers) ≡ false
