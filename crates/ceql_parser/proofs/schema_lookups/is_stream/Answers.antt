use Rattle.std.proofs.Common.{ap, ◌∙◌, ℕ, List, Option}
use Rattle.std.specs.Prelude.{is_some}
use Rattle.ceql_parser.proofs.TypesFound.{stream_found}
use Rattle.ceql_parser.proofs.schema_lookups.is_stream.Goals as goal

pub returns-in-Some : goal.returns-in-Some
returns-in-Some c = ap (λ (o : Option (List ℕ)). is_some o) c.in-Some.ensures ∙ stream_found c.args.schema.now.streams c.args.name.now

pub returns-in-None : goal.returns-in-None
returns-in-None c = ap (λ (o : Option (List ℕ)). is_some o) c.in-None.ensures ∙ stream_found c.args.schema.now.streams c.args.name.now
