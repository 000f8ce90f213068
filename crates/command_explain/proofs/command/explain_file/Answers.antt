use Rattle.std.proofs.Common.{ℕ, List, Option, refl, subst}
use Rattle.cel_terms.specs.declared.Query.{Query}
use Rattle.stream_answers.specs.RunEnds.{EndClaims, ByEnd}
use Rattle.command_base.specs.Sources.{Sources}
use Rattle.command_base.proofs.Ends.{file_unopened}
use Rattle.command_base.proofs.Sources.{file_ran}
use Rattle.command_explain.specs.ExplanationOutput.{explained_said}
use Rattle.command_explain.proofs.command.explain_file.Goals as goal

pub returns-in-Err-clause-stop : goal.returns-in-Err-clause-stop
returns-in-Err-clause-stop g c = file_unopened _ _ _ _ _ _ _ refl refl c.in-Err.ensures.stop c.in-Err.ensures.opening

pub returns-clause-stop : goal.returns-clause-stop
returns-clause-stop g c =
    let sources : Sources g.row.H-Src.Denot = record { faults = g.H.Src.Source.faults; left = g.H.Src.Source.left } in
    let said : Option (List ℕ) → List Query → EndClaims = λ source queries.
    explained_said (record { schema = c.args.accepted.now.schema; queries = queries; question = c.args.question.now }) source (g.K.Sink.taken c.args.out.now) (g.K.Sink.taken c.write_explanation-end.new.out) in
    let wrote = subst (λ (queries : List Query). ByEnd (said (g.H.Src.Source.left c.in-Ok.source) queries) (g.H.Src.Source.left c.write_explanation-end.new.source) c.write_explanation-end.result) c.as_slice-queries.ensures c.write_explanation-end.ensures.wrote in
    file_ran sources (λ source. said source c.args.accepted.now.queries) _ _ c.in-Ok.source c.write_explanation-end.new.source c.write_explanation-end.result _ _ _ c.in-Ok.ensures.bytes c.in-Ok.ensures.counts c.in-Ok.ensures.fresh wrote c.write_explanation-end.ensures.read_cause c.write_explanation-end.ensures.write_cause c.fault_count-before.ensures
    c.stop_of.ensures.cause c.stop_of.ensures.failed
