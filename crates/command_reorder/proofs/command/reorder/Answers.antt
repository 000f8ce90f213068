use Rattle.std.proofs.Common.{◌≡◌, true, false, inl, refl, rules}
use Rattle.reorder_gate.specs.AttributeClock.{clock_fits}
use Rattle.command_base.proofs.Answering.{answering_ended, answering_left}
use Rattle.command_base.proofs.Ends.{queries_ended, left_by_end}
use Rattle.command_base.proofs.StepClauses.{has_no_queries, early_steps, early_is_not_fine, steps_of_files}
use Rattle.command_base.specs.Answering.{answering_counts, answering_leaves}
use Rattle.command_reorder.specs.Reordered.{answers_of, reorder_task}
use Rattle.command_reorder.proofs.Unfit.{unfit_ended, unfit_is_early}
use Rattle.command_reorder.proofs.Lawful.{reorder_gives}
use Rattle.command_reorder.proofs.command.reorder.Goals as goal

pub returns-in-Err-clause-ended : goal.returns-in-Err-clause-ended
returns-in-Err-clause-ended g c =
    queries_ended _ _ _ (reorder_task c.args.words.now) _ _ refl (inl refl) _ _ _ refl (rw c.as_str.ensures at c.read_engine.ensures.asked.opened) (rw c.as_str.ensures at c.in-Err.ensures.stop)

pub returns-in-Err-clause-steps : goal.returns-in-Err-clause-steps
returns-in-Err-clause-steps g c = early_steps _ _ _ _ _ (has_no_queries _ _ _ _ _ _ c.in-Err.ensures.stop.stops)

pub returns-then-not-clock_fits-clause-ended : goal.returns-then-not-clock_fits-clause-ended
returns-then-not-clock_fits-clause-ended g c =
    let lacks : clock_fits c.in-Ok.engine.schema c.as_str-clock.result.now ≡ false = search rules in
    unfit_ended _ _ _ c.args.words.now _ _ _ _ _ _ (rw c.as_str-clock.ensures at c.unfit.ensures.cause) (rw c.as_str-clock.ensures at lacks) (rw c.as_str.ensures at c.in-Ok.ensures.accepted) c.in-Ok.ensures.counts refl refl
    (rw c.as_str.ensures at c.read_engine.ensures.asked.opened) c.unfit.ensures.failed

pub returns-then-not-clock_fits-clause-steps : goal.returns-then-not-clock_fits-clause-steps
returns-then-not-clock_fits-clause-steps g c = early_steps _ _ _ _ _ (unfit_is_early _ _ c.unfit.ensures.cause)

pub reorder_file-stop-requires-clause-fits : goal.reorder_file-stop-requires-clause-fits
reorder_file-stop-requires-clause-fits g c =
    let fits : clock_fits c.in-Ok.engine.schema c.as_str-clock.result.now ≡ true = search rules in
    rw c.as_str-clock.ensures at fits

pub returns-clause-ended : goal.returns-clause-ended
returns-clause-ended g c =
    let fits : clock_fits c.in-Ok.engine.schema c.as_str-clock.result.now ≡ true = search rules in
    rw (c.leaving.ensures.cause, c.leaving.ensures.failed) (answering_ended _ _ _ (answers_of c.args.words.now) (reorder_gives _) _ _ _ _ _ _ _ _ _ (rw c.as_str-clock.ensures at fits) c.read_engine.ensures.asked.kept c.in-Ok.ensures.counts (rw c.as_str.ensures at c.in-Ok.ensures.accepted) (rw c.as_str.ensures at c.read_engine.ensures.asked.opened)
    c.reorder_file-stop.ensures.asked.opened c.reorder_file-stop.ensures.stop)

pub returns-clause-steps : goal.returns-clause-steps
returns-clause-steps g c =
    rw c.leaving.ensures.cause (steps_of_files (answering_counts (answers_of c.args.words.now)) (g.H.Host.content c.args.host.now) _ c.args.words.now.queries c.args.words.now.events c.in-Ok.engine.schema c.in-Ok.engine.queries c.reorder_file-stop.result.cause (g.K.Sink.taken c.args.out.now)
    (g.K.Sink.taken c.reorder_file-stop.new.out) c.args.steps.now c.reorder_file-stop.new.steps (c.read_engine.ensures.asked.kept _) (rw c.as_str.ensures at c.in-Ok.ensures.accepted) c.reorder_file-stop.ensures.steps)

pub returns-in-Err-clause-left : goal.returns-in-Err-clause-left
returns-in-Err-clause-left g c =
    left_by_end (answering_leaves (answers_of c.args.words.now) (g.H.Host.content c.args.host.now)) _ _ (λ fine. absurd (early_is_not_fine _ (has_no_queries _ _ _ _ _ _ c.in-Err.ensures.stop.stops) fine)) (λ ill. c.in-Err.ensures.stop.none)

pub returns-then-not-clock_fits-clause-left : goal.returns-then-not-clock_fits-clause-left
returns-then-not-clock_fits-clause-left g c =
    left_by_end (answering_leaves (answers_of c.args.words.now) (g.H.Host.content c.args.host.now)) _ _ (λ fine. absurd (early_is_not_fine _ (unfit_is_early _ _ c.unfit.ensures.cause) fine)) (λ ill. c.unfit.ensures.left)

pub returns-clause-left : goal.returns-clause-left
returns-clause-left g c =
    answering_left (g.H.Host.content c.args.host.now) _ (answers_of c.args.words.now) c.in-Ok.engine c.reorder_file-stop.new.engine c.leaving.result.cause c.reorder_file-stop.result.cause c.leaving.result.left c.reorder_file-stop.result.left c.leaving.ensures.cause (c.read_engine.ensures.asked.kept _) (rw c.as_str.ensures at c.in-Ok.ensures.accepted)
    c.reorder_file-stop.ensures.same c.in-Ok.ensures.peaks c.reorder_file-stop.ensures.left c.reorder_file-stop.ensures.none_left c.leaving.ensures.fine c.leaving.ensures.other
