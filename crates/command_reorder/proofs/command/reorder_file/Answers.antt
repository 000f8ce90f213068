use Rattle.std.proofs.Common.{ℕ, List, Option, refl, sym, ◌∙◌}
use Rattle.stream_answers.specs.RunEnds.{EndClaims}
use Rattle.command_base.specs.Sources.{Sources}
use Rattle.command_base.proofs.Ends.{file_unopened}
use Rattle.command_base.proofs.StepClauses.{is_opening, early_steps, early_is_not_fine, steps_of_source}
use Rattle.command_base.proofs.Sources.{file_ran, source_steps, ended_well}
use Rattle.command_base.proofs.Told.{source_told}
use Rattle.command_base.specs.Answering.{answering_counts, source_said}
use Rattle.command_reorder.specs.Reordered.{answers_of}
use Rattle.command_reorder.proofs.command.reorder_file.Goals as goal

pub returns-in-Err-clause-stop : goal.returns-in-Err-clause-stop
returns-in-Err-clause-stop g c = file_unopened _ _ _ _ _ _ _ refl refl (rw c.as_str.ensures at c.in-Err.ensures.stop) c.in-Err.ensures.opening

pub returns-in-Err-clause-steps : goal.returns-in-Err-clause-steps
returns-in-Err-clause-steps g c = early_steps _ _ _ _ _ (is_opening _ c.in-Err.ensures.opening)

pub returns-in-Err-clause-left : goal.returns-in-Err-clause-left
returns-in-Err-clause-left g c = λ fine. absurd (early_is_not_fine _ (is_opening _ c.in-Err.ensures.opening) fine)

pub returns-clause-stop : goal.returns-clause-stop
returns-clause-stop g c =
    let sources : Sources g.row.H-Src.Denot = record { faults = g.H.Src.Source.faults; left = g.H.Src.Source.left } in
    let said : Option (List ℕ) → EndClaims = λ source. source_said (answers_of c.args.words.now) c.args.engine.now.schema c.args.engine.now.queries source (g.K.Sink.taken c.args.out.now) (g.K.Sink.taken c.write_late-end.new.out) in
    file_ran sources said _ _ c.in-Ok.source c.write_late-end.new.source c.write_late-end.result _ _ _ (rw c.as_str.ensures at c.in-Ok.ensures.bytes) c.in-Ok.ensures.counts c.in-Ok.ensures.fresh (rw c.as_str-2.ensures at c.write_late-end.ensures.wrote) c.write_late-end.ensures.read_cause c.write_late-end.ensures.write_cause c.fault_count-before.ensures
    c.stop_of.ensures.cause c.stop_of.ensures.failed

pub returns-clause-steps : goal.returns-clause-steps
returns-clause-steps g c =
    let counts = answering_counts (answers_of c.args.words.now) c.args.engine.now.schema c.args.engine.now.queries in
    rw c.stop_of.ensures.cause (steps_of_source counts _ _ _ _ _ _ _ (rw c.as_str.ensures at c.in-Ok.ensures.bytes) (source_steps counts _ _ _ _ _ _ _ _ c.write_late-end.result (rw c.as_str-2.ensures at c.write_late-end.ensures.steps)))

pub returns-clause-left : goal.returns-clause-left
returns-clause-left g c = λ fine bytes told.
    ended_well _ _ _ c.write_late-end.result (sym c.stop_of.ensures.cause ∙ fine) (rw c.as_str-2.ensures at c.write_late-end.ensures.stands) bytes (source_told _ _ bytes (rw c.as_str.ensures at c.in-Ok.ensures.bytes) told)
