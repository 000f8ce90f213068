use Rattle.std.proofs.Common.{inl, refl}
use Rattle.command_base.proofs.Answering.{answering_ended, answering_left}
use Rattle.command_base.proofs.Ends.{queries_ended, left_by_end}
use Rattle.command_base.proofs.StepClauses.{has_no_queries, early_steps, early_is_not_fine, steps_of_files}
use Rattle.command_base.specs.Answering.{answering_counts, answering_leaves}
use Rattle.command_run.specs.Runs.{answers_of, run_task}
use Rattle.command_run.proofs.Lawful.{run_gives}
use Rattle.command_run.proofs.command.run.Goals as goal

pub returns-in-Err-clause-ended : goal.returns-in-Err-clause-ended
returns-in-Err-clause-ended g c =
    queries_ended _ _ _ (run_task c.args.words.now) _ _ refl (inl refl) _ _ _ refl (rw c.as_str.ensures at c.read_engine.ensures.asked.opened) (rw c.as_str.ensures at c.in-Err.ensures.stop)

pub returns-in-Err-clause-steps : goal.returns-in-Err-clause-steps
returns-in-Err-clause-steps g c = early_steps _ _ _ _ _ (has_no_queries _ _ _ _ _ _ c.in-Err.ensures.stop.stops)

pub returns-in-Err-clause-left : goal.returns-in-Err-clause-left
returns-in-Err-clause-left g c =
    left_by_end (answering_leaves (answers_of c.args.words.now) (g.H.Host.content c.args.host.now)) _ _ (λ fine. absurd (early_is_not_fine _ (has_no_queries _ _ _ _ _ _ c.in-Err.ensures.stop.stops) fine)) (λ ill. c.in-Err.ensures.stop.none)

pub returns-clause-ended : goal.returns-clause-ended
returns-clause-ended g c =
    rw (c.leaving.ensures.cause, c.leaving.ensures.failed) (answering_ended _ _ _ (answers_of c.args.words.now) (run_gives _) _ _ _ _ _ _ _ _ _ refl c.read_engine.ensures.asked.kept c.in-Ok.ensures.counts (rw c.as_str.ensures at c.in-Ok.ensures.accepted)
    (rw c.as_str.ensures at c.read_engine.ensures.asked.opened) c.answer_file-stop.ensures.asked.opened c.answer_file-stop.ensures.stop)

pub returns-clause-steps : goal.returns-clause-steps
returns-clause-steps g c =
    rw c.leaving.ensures.cause (steps_of_files (answering_counts (answers_of c.args.words.now)) (g.H.Host.content c.args.host.now) _ c.args.words.now.queries c.args.words.now.events c.in-Ok.engine.schema c.in-Ok.engine.queries c.answer_file-stop.result.cause (g.K.Sink.taken c.args.out.now)
    (g.K.Sink.taken c.answer_file-stop.new.out) c.args.steps.now c.answer_file-stop.new.steps (c.read_engine.ensures.asked.kept _) (rw c.as_str.ensures at c.in-Ok.ensures.accepted) c.answer_file-stop.ensures.steps)

pub returns-clause-left : goal.returns-clause-left
returns-clause-left g c =
    answering_left (g.H.Host.content c.args.host.now) _ (answers_of c.args.words.now) c.in-Ok.engine c.answer_file-stop.new.engine c.leaving.result.cause c.answer_file-stop.result.cause c.leaving.result.left c.answer_file-stop.result.left c.leaving.ensures.cause (c.read_engine.ensures.asked.kept _)
    (rw c.as_str.ensures at c.in-Ok.ensures.accepted) c.answer_file-stop.ensures.same c.in-Ok.ensures.peaks c.answer_file-stop.ensures.left c.answer_file-stop.ensures.none_left c.leaving.ensures.fine c.leaving.ensures.other
