use Rattle.std.proofs.Common.{inl, refl, sym, subst, ◌∙◌}
use Rattle.std.specs.List.{AllByRecursion}
use Rattle.stream_schema.specs.Types.{Declared}
use Rattle.stream_schema.specs.Events.{IsOfSchema}
use Rattle.command_base.proofs.Ends.{queries_ended, stay_on, left_by_end}
use Rattle.command_base.proofs.StepClauses.{has_no_queries, early_steps, early_is_not_fine}
use Rattle.command_checkpoint.specs.GoingOn.{resume_task}
use Rattle.command_checkpoint.proofs.HistoryEnds.{history_ended, engine_ended, history_early}
use Rattle.command_checkpoint.proofs.AfterHistory.{for_engine, resume_ended}
use Rattle.command_checkpoint.proofs.ThreeFiles.{steps_of_three, leaves}
use Rattle.command_checkpoint.proofs.resume_command.resume.Goals as goal

pub returns-in-Err-clause-ended : goal.returns-in-Err-clause-ended
returns-in-Err-clause-ended g c =
    queries_ended _ _ _ (resume_task c.args.words.now) _ _ refl (inl refl) _ _ _ refl (rw c.as_str.ensures at c.read_accepted.ensures.asked.opened) (rw c.as_str.ensures at c.in-Err.ensures.stop)

pub returns-in-Err-clause-steps : goal.returns-in-Err-clause-steps
returns-in-Err-clause-steps g c = early_steps _ _ _ _ _ (has_no_queries _ _ _ _ _ _ c.in-Err.ensures.stop.stops)

pub returns-in-Err-clause-left : goal.returns-in-Err-clause-left
returns-in-Err-clause-left g c = left_by_end _ _ _ (λ fine. absurd (early_is_not_fine _ (has_no_queries _ _ _ _ _ _ c.in-Err.ensures.stop.stops) fine)) (λ ill. c.in-Err.ensures.stop.none)

pub returns-in-Err-read_history-clause-ended : goal.returns-in-Err-read_history-clause-ended
returns-in-Err-read_history-clause-ended g c =
    history_ended _ _ _ c.args.words.now _ _ _ _ _ (rw c.as_str.ensures at c.in-Ok.ensures.accepted) refl refl (rw c.as_str.ensures at c.read_accepted.ensures.asked.opened) (rw c.as_str-checkpoint.ensures at c.read_history.ensures.asked.opened)
    _ _ _ _ _ (c.read_accepted.ensures.asked.kept _) c.in-Ok.ensures.counts (rw c.as_str-checkpoint.ensures at c.in-Err-read_history.ensures.stop)

pub returns-in-Err-read_history-clause-steps : goal.returns-in-Err-read_history-clause-steps
returns-in-Err-read_history-clause-steps g c = early_steps _ _ _ _ _ (history_early _ _ _ _ _ _ _ _ c.in-Err-read_history.ensures.stop.stops)

pub returns-in-Err-read_history-clause-left : goal.returns-in-Err-read_history-clause-left
returns-in-Err-read_history-clause-left g c = left_by_end _ _ _ (λ fine. absurd (early_is_not_fine _ (history_early _ _ _ _ _ _ _ _ c.in-Err-read_history.ensures.stop.stops) fine)) (λ ill. c.in-Err-read_history.ensures.stop.none)

pub returns-in-Err-seeded-clause-ended : goal.returns-in-Err-seeded-clause-ended
returns-in-Err-seeded-clause-ended g c =
    engine_ended _ _ _ c.args.words.now _ _ _ _ _ (rw c.as_str.ensures at c.in-Ok.ensures.accepted) refl refl (rw c.as_str.ensures at c.read_accepted.ensures.asked.opened) (rw c.as_str-checkpoint.ensures at c.read_history.ensures.asked.opened)
    _ _ (stay_on _ _ _ c.in-Ok.ensures.counts c.in-Ok-read_history.ensures.counts) c.of.ensures.cause c.of.ensures.failed

pub resume_file-stop-requires-clause-of_schema : goal.resume_file-stop-requires-clause-of_schema
resume_file-stop-requires-clause-of_schema g c =
    let P : Declared → Type 0 = λ s. AllByRecursion (λ e. IsOfSchema s e.event) c.in-Ok-read_history.history.events in
    subst P (sym c.in-Ok-seeded.ensures.given.0) c.in-Ok-read_history.ensures.of_schema

pub returns-clause-ended : goal.returns-clause-ended
returns-clause-ended g c =
    let e = for_engine (g.H.Host.content c.args.host.now) (g.H.Host.content c.read_accepted.new.host) c.args.words.now.queries c.args.words.now.checkpoint _ _ c.in-Ok-seeded.engine.schema _ c.in-Ok-seeded.engine.queries c.in-Ok-seeded.ensures.given.0 c.in-Ok-seeded.ensures.given.1 (c.read_accepted.ensures.asked.kept c.args.words.now.checkpoint)
    (rw c.as_str.ensures at c.in-Ok.ensures.accepted) (rw c.as_str-checkpoint.ensures at c.in-Ok-read_history.ensures.told) c.in-Ok-read_history.ensures.history in
    rw (c.leaving.ensures.cause, c.leaving.ensures.failed) (resume_ended _ _ _ c.args.words.now _ _ _ _ _ _ c.in-Ok-read_history.history _ _ _ _
    (λ name. c.read_history.ensures.asked.kept name ∙ c.read_accepted.ensures.asked.kept name) (stay_on _ _ _ c.in-Ok.ensures.counts c.in-Ok-read_history.ensures.counts) e.accepted e.told e.is
    (rw c.as_str.ensures at c.read_accepted.ensures.asked.opened) (rw c.as_str-checkpoint.ensures at c.read_history.ensures.asked.opened) (rw c.as_str-events.ensures at c.resume_file-stop.ensures.asked.opened) (rw c.as_str-events.ensures at c.resume_file-stop.ensures.stop))

pub returns-clause-steps : goal.returns-clause-steps
returns-clause-steps g c =
    let e = for_engine (g.H.Host.content c.args.host.now) (g.H.Host.content c.read_accepted.new.host) c.args.words.now.queries c.args.words.now.checkpoint _ _ c.in-Ok-seeded.engine.schema _ c.in-Ok-seeded.engine.queries c.in-Ok-seeded.ensures.given.0 c.in-Ok-seeded.ensures.given.1 (c.read_accepted.ensures.asked.kept c.args.words.now.checkpoint)
    (rw c.as_str.ensures at c.in-Ok.ensures.accepted) (rw c.as_str-checkpoint.ensures at c.in-Ok-read_history.ensures.told) c.in-Ok-read_history.ensures.history in
    rw c.leaving.ensures.cause (steps_of_three (g.H.Host.content c.args.host.now) _ c.args.words.now _ _ c.in-Ok-read_history.history c.resume_file-stop.result.cause (g.K.Sink.taken c.args.out.now) (g.K.Sink.taken c.resume_file-stop.new.out) c.args.steps.now c.resume_file-stop.new.steps
    (c.read_history.ensures.asked.kept _ ∙ c.read_accepted.ensures.asked.kept _) e.accepted e.told (rw c.as_str-events.ensures at c.resume_file-stop.ensures.steps))

pub returns-clause-left : goal.returns-clause-left
returns-clause-left g c =
    let e = for_engine (g.H.Host.content c.args.host.now) (g.H.Host.content c.read_accepted.new.host) c.args.words.now.queries c.args.words.now.checkpoint _ _ c.in-Ok-seeded.engine.schema _ c.in-Ok-seeded.engine.queries c.in-Ok-seeded.ensures.given.0 c.in-Ok-seeded.ensures.given.1 (c.read_accepted.ensures.asked.kept c.args.words.now.checkpoint)
    (rw c.as_str.ensures at c.in-Ok.ensures.accepted) (rw c.as_str-checkpoint.ensures at c.in-Ok-read_history.ensures.told) c.in-Ok-read_history.ensures.history in
    leaves _ _ c.args.words.now c.in-Ok-read_history.history c.in-Ok-seeded.engine c.resume_file-stop.new.engine c.leaving.result.cause c.resume_file-stop.result.cause c.leaving.result.left c.resume_file-stop.result.left c.leaving.ensures.cause
    (c.read_history.ensures.asked.kept _ ∙ c.read_accepted.ensures.asked.kept _) e.accepted e.told c.resume_file-stop.ensures.same c.in-Ok-seeded.ensures.peaks (rw c.as_str-events.ensures at c.resume_file-stop.ensures.left) c.resume_file-stop.ensures.none_left c.leaving.ensures.fine c.leaving.ensures.other
