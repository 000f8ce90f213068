use Rattle.std.proofs.Common.{inl, refl}
use Rattle.command_base.proofs.Ends.{queries_ended}
use Rattle.command_base.proofs.StepClauses.{has_no_queries, early_steps, steps_of_files}
use Rattle.command_session.specs.Played.{session_task}
use Rattle.command_session.specs.StepCounts.{script_counts}
use Rattle.command_session.proofs.OverFiles.{play_ended}
use Rattle.command_session.proofs.session_command.play.Goals as goal

pub returns-in-Err-clause-ended : goal.returns-in-Err-clause-ended
returns-in-Err-clause-ended g c =
    queries_ended _ _ _ (session_task c.args.words.now) _ _ refl (inl refl) _ _ _ refl (rw c.as_str.ensures at c.read_accepted.ensures.asked.opened) (rw c.as_str.ensures at c.in-Err.ensures.stop)

pub returns-in-Err-clause-steps : goal.returns-in-Err-clause-steps
returns-in-Err-clause-steps g c = early_steps _ _ _ _ _ (has_no_queries _ _ _ _ _ _ c.in-Err.ensures.stop.stops)

pub returns-clause-ended : goal.returns-clause-ended
returns-clause-ended g c =
    play_ended _ _ _ c.args.words.now _ _ _ c.in-Ok.accepted.schema c.in-Ok.accepted.queries _ _ _ _ c.read_accepted.ensures.asked.kept c.in-Ok.ensures.counts (rw c.as_str.ensures at c.in-Ok.ensures.accepted)
    (rw c.as_str.ensures at c.read_accepted.ensures.asked.opened) (rw c.as_str-script.ensures at c.play_file.ensures.asked.opened) (rw c.as_str-script.ensures at c.play_file.ensures.stop)

pub returns-clause-steps : goal.returns-clause-steps
returns-clause-steps g c =
    steps_of_files script_counts (g.H.Host.content c.args.host.now) _ _ _ c.in-Ok.accepted.schema c.in-Ok.accepted.queries c.play_file.result.cause (g.K.Sink.taken c.args.out.now) (g.K.Sink.taken c.play_file.new.out) c.args.steps.now c.play_file.new.steps
    (c.read_accepted.ensures.asked.kept _) (rw c.as_str.ensures at c.in-Ok.ensures.accepted) (rw c.as_str-script.ensures at c.play_file.ensures.steps)
