use Rattle.std.proofs.Common.{ap, ◌∙◌}
use Rattle.ceql_parser.specs.TypesAsked.{is_type_name}
use Rattle.ceql_parser.proofs.TypeSets.{number_found, number_missing}
use Rattle.ceql_parser.proofs.query_types.QueryTypes.is_type_name.Goals as goal

pub returns-in-Some : goal.returns-in-Some
returns-in-Some c =
    c.contains.ensures
    ∙ number_found c.self.inside.schema.now c.args.name.now c.in-Some.number c.self.inside.numbers.keys c.in-Some.ensures.place c.in-Some.ensures.only
    ∙ ap (λ ts. is_type_name ts c.args.name.now) c.self.view_is

pub returns-in-None : goal.returns-in-None
returns-in-None c =
    number_missing c.self.inside.schema.now c.args.name.now c.self.inside.numbers.keys c.in-None.ensures.place
    ∙ ap (λ ts. is_type_name ts c.args.name.now) c.self.view_is
