use Rattle.std.proofs.Common.{ℕ, List, Option, refl}
use Rattle.stream_answers.specs.RunEnds.{EndClaims}
use Rattle.command_base.specs.Sources.{Sources}
use Rattle.command_base.proofs.Ends.{file_unopened}
use Rattle.command_base.proofs.StepClauses.{is_opening, early_steps, steps_of_source}
use Rattle.command_base.proofs.Sources.{file_ran, source_steps}
use Rattle.command_session.specs.Scripts.{play_said}
use Rattle.command_session.specs.StepCounts.{script_asked, script_counts}
use Rattle.command_session.proofs.TurnsCounted.{turns_counted}
use Rattle.command_session.proofs.session_command.play_file.Goals as goal

pub returns-in-Err-clause-stop : goal.returns-in-Err-clause-stop
returns-in-Err-clause-stop g c = file_unopened _ _ _ _ _ _ _ refl refl c.in-Err.ensures.stop c.in-Err.ensures.opening

pub returns-in-Err-clause-steps : goal.returns-in-Err-clause-steps
returns-in-Err-clause-steps g c = early_steps _ _ _ _ _ (is_opening _ c.in-Err.ensures.opening)

pub returns-clause-stop : goal.returns-clause-stop
returns-clause-stop g c =
    let sources : Sources _ = record { faults = g.H.Src.Source.faults; left = g.H.Src.Source.left } in
    let said : Option (List ℕ) → EndClaims = λ source. play_said (script_asked c.args.accepted.schema c.args.accepted.queries) source (g.K.Sink.taken c.args.out.now) (g.K.Sink.taken c.play_script-end.new.out) in
    file_ran sources said _ _ c.in-Ok.source c.play_script-end.new.source c.play_script-end.result _ _ _ c.in-Ok.ensures.bytes c.in-Ok.ensures.counts c.in-Ok.ensures.fresh c.play_script-end.ensures.wrote c.play_script-end.ensures.read_cause c.play_script-end.ensures.write_cause c.fault_count-before.ensures
    c.stop_of.ensures.cause c.stop_of.ensures.failed

pub returns-clause-steps : goal.returns-clause-steps
returns-clause-steps g c =
    let counts = script_counts c.args.accepted.schema c.args.accepted.queries in
    rw c.stop_of.ensures.cause (steps_of_source counts _ _ _ _ _ _ _ c.in-Ok.ensures.bytes (source_steps counts _ _ _ _ _ _ _ _ c.play_script-end.result
    (λ script told. turns_counted c.args.accepted.schema c.args.accepted.queries script (g.K.Sink.taken c.args.out.now) (g.K.Sink.taken c.play_script-end.new.out) c.args.steps.now c.play_script-end.new.steps c.play_script-end.result (c.play_script-end.ensures.steps script told))))
