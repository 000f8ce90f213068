use Rattle.std.proofs.Common.{ap, subst, ◌∙◌, Option}
use Rattle.cel_terms.specs.Answers.{query_types}
use Rattle.ceql_grammar.specs.declared.faults.QueryError.{QueryError}
use Rattle.ceql_parser.specs.FirstFaults.{FindsFault}
use Rattle.ceql_parser.specs.StatementFaults.{query_fault}
use Rattle.ceql_parser.specs.TypesAsked.{types_at}
use Rattle.ceql_parser.proofs.FaultsOfTypes.{query_same}
use Rattle.ceql_parser.proofs.select_checks.check_typed.Goals as goal

pub returns-in-Ok : goal.returns-in-Ok
returns-in-Ok c =
    let schema = c.args.schema.now in
    let query = c.args.query.now in
    subst (λ (o : Option QueryError). FindsFault c.check_query.result o)
    (query_same c.in-Ok.types (types_at schema (query_types schema c.as_slice.result.now)) c.in-Ok.ensures query
    ∙ ap (λ names. query_fault (types_at schema (query_types schema names)) query) c.as_slice.ensures)
    c.check_query.ensures
