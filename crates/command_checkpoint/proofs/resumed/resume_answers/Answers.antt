use Rattle.std.proofs.Common.{None, arith}
use Rattle.query_engine.specs.Engine.{peak_of}
use Rattle.stream_answers.specs.Steps.{CountsAllAfter, CountsAtFaultAfter, counts_said}
use Rattle.stream_answers.specs.Streams.{answers_said, asked_by}
use Rattle.stream_answers.proofs.Wholes.{wrote_none}
use Rattle.stream_answers.proofs.Totals.{counts_none}
use Rattle.stream_answers.proofs.Windows.{on_ok}
use Rattle.command_checkpoint.specs.Resumed.{timing_after}
use Rattle.command_checkpoint.proofs.Resuming.{follows, paid, paid_as, wrote_as, steps_as, stands_as, each_ended}
use Rattle.command_checkpoint.proofs.resumed.resume_answers.Goals as goal

pub write_answers_after-requires : goal.write_answers_after-requires
write_answers_after-requires g c = let count = c.in-Ok.ensures.replayed.count in let room = c.requires.room in omega (arith, count, room)

pub returns-in-Err-clause-wrote : goal.returns-in-Err-clause-wrote
returns-in-Err-clause-wrote g c = λ earlier is. wrote_none earlier _ _ _

pub returns-in-Err-clause-steps : goal.returns-in-Err-clause-steps
returns-in-Err-clause-steps g c = λ bytes told earlier is.
    counts_none (timing_after c.args.options.compact_every earlier) earlier _ bytes c.args.steps.now _ (paid c.args.options.compact_every _ _ earlier c.args.steps.now _ (λ most meet. c.replay.ensures.steps earlier most is meet))

pub returns-clause-wrote : goal.returns-clause-wrote
returns-clause-wrote g c =
    each_ended c.args.engine.now.schema c.args.history.now (λ earlier. answers_said earlier (asked_by c.args.options c.args.engine.now) (g.Q.Source.left c.args.source.now) (g.K.Sink.taken c.args.out.now) (g.K.Sink.taken c.write_answers_after.new.out))
    (g.Q.Source.left c.write_answers_after.new.source) c.write_answers_after.result (λ earlier is.
    wrote_as c.args.options c.args.engine.now c.replay.new.engine c.replay.ensures.same earlier _ _ _ _ _
    (c.write_answers_after.ensures.wrote (peak_of c.args.engine.now) earlier (follows (peak_of c.args.engine.now) c.args.engine.now.schema c.args.history.now c.replay.new.engine c.in-Ok.ensures.replayed c.in-Ok.ensures.peaks earlier is)))

pub returns-clause-steps : goal.returns-clause-steps
returns-clause-steps g c = λ bytes told.
    each_ended c.args.engine.now.schema c.args.history.now (λ earlier.
    let timing = timing_after c.args.options.compact_every earlier in
    let a = asked_by c.args.options c.args.engine.now in
    counts_said (λ Stops Took. CountsAllAfter timing earlier a bytes Stops Took c.args.steps.now c.write_answers_after.new.steps) (CountsAtFaultAfter timing earlier a.order a bytes (g.K.Sink.taken c.args.out.now) (g.K.Sink.taken c.write_answers_after.new.out) c.args.steps.now c.write_answers_after.new.steps)
    (g.K.Sink.taken c.args.out.now) (g.K.Sink.taken c.write_answers_after.new.out)) None c.write_answers_after.result (λ earlier is.
    let timing = timing_after c.args.options.compact_every earlier in
    steps_as c.args.options c.args.engine.now c.replay.new.engine c.replay.ensures.same earlier timing bytes _ _ c.args.steps.now _ _
    (c.write_answers_after.ensures.steps (peak_of c.args.engine.now) earlier c.args.steps.now (follows (peak_of c.args.engine.now) c.args.engine.now.schema c.args.history.now c.replay.new.engine c.in-Ok.ensures.replayed c.in-Ok.ensures.peaks earlier is)
    (paid_as c.args.options c.args.engine.now c.replay.new.engine c.replay.ensures.same earlier c.args.steps.now c.replay.new.steps (λ most meet. c.replay.ensures.steps earlier most is meet)) bytes told))

pub returns-clause-stands : goal.returns-clause-stands
returns-clause-stands g c =
    on_ok c.write_answers_after.result _ _ (λ stands bytes told earlier is.
    stands_as c.args.options c.args.engine.now c.replay.new.engine c.replay.ensures.same earlier (timing_after c.args.options.compact_every earlier) (peak_of c.args.engine.now) bytes c.write_answers_after.new.engine
    (stands (peak_of c.args.engine.now) earlier (follows (peak_of c.args.engine.now) c.args.engine.now.schema c.args.history.now c.replay.new.engine c.in-Ok.ensures.replayed c.in-Ok.ensures.peaks earlier is) bytes told))
    c.write_answers_after.ensures.stands
