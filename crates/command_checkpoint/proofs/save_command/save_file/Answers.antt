use Rattle.std.proofs.Common.{ℕ, List, Option, refl, subst}
use Rattle.cel_terms.specs.declared.Query.{Query}
use Rattle.stream_answers.specs.RunEnds.{EndClaims, ByEnd}
use Rattle.command_base.specs.Sources.{Sources}
use Rattle.command_base.proofs.Ends.{file_unopened}
use Rattle.command_base.proofs.Sources.{file_ran}
use Rattle.command_checkpoint.specs.Saved.{saved_said}
use Rattle.command_checkpoint.specs.Saving.{save_asked}
use Rattle.command_checkpoint.proofs.save_command.save_file.Goals as goal

pub returns-in-Err-clause-stop : goal.returns-in-Err-clause-stop
returns-in-Err-clause-stop g c = file_unopened _ _ _ _ _ _ _ refl refl c.in-Err.ensures.stop c.in-Err.ensures.opening

pub returns-clause-stop : goal.returns-clause-stop
returns-clause-stop g c =
    let sources : Sources _ = record { faults = g.H.Src.Source.faults; left = g.H.Src.Source.left } in
    let said : List Query → Option (List ℕ) → EndClaims = λ queries source. saved_said (save_asked c.args.accepted.now.schema queries) source (g.K.Sink.taken c.args.out.now) (g.K.Sink.taken c.save_events-end.new.out) in
    let wrote = subst (λ (queries : List Query). ByEnd (said queries (g.H.Src.Source.left c.in-Ok.source)) (g.H.Src.Source.left c.save_events-end.new.source) c.save_events-end.result) c.as_slice-queries.ensures c.save_events-end.ensures.wrote in
    file_ran sources (said c.args.accepted.now.queries) _ _ c.in-Ok.source c.save_events-end.new.source c.save_events-end.result _ _ _ c.in-Ok.ensures.bytes c.in-Ok.ensures.counts c.in-Ok.ensures.fresh wrote c.save_events-end.ensures.read_cause c.save_events-end.ensures.write_cause c.fault_count-before.ensures
    c.stop_of.ensures.cause c.stop_of.ensures.failed
