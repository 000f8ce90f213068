use Rattle.std.proofs.Common.{◌≡◌, ap, sym, subst, ◌∙◌, List, None}
use Rattle.std.specs.Prelude.{All}
use Rattle.stream_schema.specs.Types.{Declared}
use Rattle.cel_terms.specs.declared.Query.{Query}
use Rattle.cel_terms.specs.Checked.{IsChecked}
use Rattle.ceql_grammar.specs.declared.terms.Statement.{Statement}
use Rattle.ceql_parser.specs.ScriptFaults.{script_fault, declared_schema, queries_of}
use Rattle.ceql_parser.proofs.QueriesChecked.{queries_checked}
use Rattle.ceql_parser.proofs.checking.check.Goals as goal

pub returns-in-Ok-queries_of-clause-checked : goal.returns-in-Ok-queries_of-clause-checked
returns-in-Ok-queries_of-clause-checked c =
    let items = c.args.script.statements in
    let told : script_fault items c.args.script.end ≡ None = ap (λ (ss : List Statement). script_fault ss c.args.script.end) (sym c.as_slice.ensures) ∙ c.in-Ok.ensures.told in
    let schema : c.in-Ok.schema ≡ declared_schema items = c.in-Ok.ensures.schema ∙ ap declared_schema c.as_slice.ensures in
    let queries : c.of.result ≡ queries_of items = c.of.ensures ∙ c.in-Ok-queries_of.ensures ∙ ap queries_of c.into_vec.ensures in
    subst (λ (qs : List Query). All (IsChecked c.in-Ok.schema) qs) (sym queries)
    (subst (λ (sch : Declared). All (IsChecked sch) (queries_of items)) (sym schema) (queries_checked items c.args.script.end c.requires.lawful told))
