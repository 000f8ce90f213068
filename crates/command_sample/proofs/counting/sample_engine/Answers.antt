-- The queries are checked, and the engine has them.
use Rattle.std.proofs.Common.{List, sym, subst, Result, Ok, Err}
use Rattle.std.specs.Prelude.{IfOk}
use Rattle.stream_schema.specs.Types.{Declared}
use Rattle.cel_terms.specs.declared.Query.{Query}
use Rattle.query_engine.specs.Engine.{EngineState, IsNew}
use Rattle.command_sample.specs.Queries.{AreQueries}
use Rattle.command_sample.proofs.Checked.{all_checked}
use Rattle.command_sample.proofs.counting.sample_engine.Goals as goal

has_queries : {E : Type 0} (schema : Declared) (queries : List Query) (r : Result EngineState E) → IfOk r (IsNew schema queries) → AreQueries queries → IfOk r (λ e. AreQueries e.queries)
has_queries schema queries (Ok e) new h = subst AreQueries (sym new.given.1) h
has_queries schema queries (Err e) new h = tt

pub returns-clause-queries : goal.returns-clause-queries
returns-clause-queries c =
    has_queries c.in_ok-sample_schema.field-0 c.in_ok-sample_queries.field-0 c.new.result c.new.ensures c.in_ok-sample_queries.ensures

pub new-requires : goal.new-requires
new-requires c = record { checked = all_checked c.in_ok-sample_schema.field-0 c.in_ok-sample_queries.field-0 c.in_ok-sample_schema.ensures c.in_ok-sample_queries.ensures }
