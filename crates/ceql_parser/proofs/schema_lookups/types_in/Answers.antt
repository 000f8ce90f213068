use Rattle.std.proofs.Common.{ap, ◌∙◌, ℕ, List, [], Option}
use Rattle.std.specs.Option.{option_map_or}
use Rattle.ceql_parser.proofs.schema_lookups.types_in.Goals as goal

pub returns-in-Some : goal.returns-in-Some
returns-in-Some c = c.as_slice.ensures ∙ ap (λ (o : Option (List ℕ)). option_map_or (λ types. types) o []) c.in-Some.ensures

pub returns-in-None : goal.returns-in-None
returns-in-None c = ap (λ (o : Option (List ℕ)). option_map_or (λ types. types) o []) c.in-None.ensures
