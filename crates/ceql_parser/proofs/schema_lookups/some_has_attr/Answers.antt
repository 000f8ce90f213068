use Rattle.std.proofs.Common.{sym, ◌∙◌}
use Rattle.std.specs.Prelude.{slice_get}
use Rattle.ceql_parser.specs.TypesAsked.{has_attr}
use Rattle.ceql_parser.specs.WantedKinds.{serves}
use Rattle.ceql_parser.proofs.TypesFound.{any_found}
use Rattle.ceql_parser.proofs.schema_lookups.some_has_attr.Goals as goal

pub returns : goal.returns
returns c = c.some_have.ensures ∙ sym (any_found (slice_get c.args.schema.now.types) (λ t. has_attr c.args.name.now (serves c.args.wanted) t) c.args.numbers.now)
