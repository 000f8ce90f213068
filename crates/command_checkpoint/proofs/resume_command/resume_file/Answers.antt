use Rattle.std.proofs.Common.{ℕ, List, Option, refl, sym, ◌∙◌}
use Rattle.stream_answers.specs.RunEnds.{EndClaims}
use Rattle.command_base.specs.Sources.{Sources}
use Rattle.stream_answers.specs.Streams.{asked_by}
use Rattle.command_base.proofs.Ends.{file_unopened}
use Rattle.command_base.proofs.Told.{source_told}
use Rattle.command_base.proofs.StepClauses.{is_opening, early_steps, early_is_not_fine, steps_of_source}
use Rattle.command_base.proofs.Sources.{file_ran, source_steps, ended_well}
use Rattle.command_checkpoint.specs.Resumed.{resumed_said}
use Rattle.command_checkpoint.specs.Histories.{resumed_counts}
use Rattle.command_checkpoint.proofs.resume_command.resume_file.Goals as goal

pub returns-in-Err-clause-stop : goal.returns-in-Err-clause-stop
returns-in-Err-clause-stop g c = file_unopened _ _ _ _ _ _ _ refl refl c.in-Err.ensures.stop c.in-Err.ensures.opening

pub returns-in-Err-clause-steps : goal.returns-in-Err-clause-steps
returns-in-Err-clause-steps g c = early_steps _ _ _ _ _ (is_opening _ c.in-Err.ensures.opening)

pub returns-in-Err-clause-left : goal.returns-in-Err-clause-left
returns-in-Err-clause-left g c = λ fine. absurd (early_is_not_fine _ (is_opening _ c.in-Err.ensures.opening) fine)

pub returns-clause-stop : goal.returns-clause-stop
returns-clause-stop g c =
    let sources : Sources _ = record { faults = g.H.Src.Source.faults; left = g.H.Src.Source.left } in
    let said : Option (List ℕ) → EndClaims = λ source. resumed_said c.args.history.now (asked_by c.args.options c.args.engine.now) source (g.K.Sink.taken c.args.out.now) (g.K.Sink.taken c.resume_answers-end.new.out) in
    file_ran sources said _ _ c.in-Ok.source c.resume_answers-end.new.source c.resume_answers-end.result _ _ _ c.in-Ok.ensures.bytes c.in-Ok.ensures.counts c.in-Ok.ensures.fresh c.resume_answers-end.ensures.wrote c.resume_answers-end.ensures.read_cause c.resume_answers-end.ensures.write_cause c.fault_count-before.ensures
    c.stop_of.ensures.cause c.stop_of.ensures.failed

pub returns-clause-steps : goal.returns-clause-steps
returns-clause-steps g c =
    let counts = resumed_counts c.args.options.compact_every c.args.history.now (asked_by c.args.options c.args.engine.now) in
    rw c.stop_of.ensures.cause (steps_of_source counts _ _ _ _ _ _ _ c.in-Ok.ensures.bytes (source_steps counts _ _ _ _ _ _ _ _ c.resume_answers-end.result c.resume_answers-end.ensures.steps))

pub returns-clause-left : goal.returns-clause-left
returns-clause-left g c = λ fine bytes told.
    ended_well _ _ _ c.resume_answers-end.result (sym c.stop_of.ensures.cause ∙ fine) c.resume_answers-end.ensures.stands bytes (source_told _ _ bytes c.in-Ok.ensures.bytes told)
