use Rattle.std.proofs.Common.{◌+◌, refl, ◌∙◌, arith}
use Rattle.command_session.specs.Sessions.{put_by_in}
use Rattle.command_session.proofs.ScriptEnds.{went_as, line_as, ends_at_end, ends_for_line, ends_in_line, read_cause, no_write, line_read_cause, line_write_cause}
use Rattle.command_session.proofs.Turning.{counting_begun, counting_further, made_as, costs_as, counted, stop_counts, line_counts}
use Rattle.command_session.proofs.script.play_lines.Goals as goal

pub loop-fault-init : goal.loop-fault-init
loop-fault-init g c = record {
  counting = counting_begun _ _ c.args.lines.now (g.Q.Source.left c.args.source.now) (g.K.Sink.taken c.args.out.now) c.args.session.now c.args.steps.now c.requires.fresh c.requires.nothing_put_by c.requires.given;
  going = c.requires.going;
  open_is = c.requires.open;
  counted = c.requires.counted;
  same = (refl, refl);
  budget = refl;
  read_faults = refl;
  write_faults = refl;
}

pub returns-in-Ok-End-clause-wrote : goal.returns-in-Ok-End-clause-wrote
returns-in-Ok-End-clause-wrote g c =
    let inv = c.loop-fault.invariant in
    let moved = rw c.in-Ok-End.field-0-is at c.in-Ok-End.ensures.moves in
    ends_at_end _ (g.Q.Source.left c.args.source.now) c.loop-fault.lines c.next.new.self (g.Q.Source.left c.loop-fault.source) (g.Q.Source.left c.next.new.source) (g.K.Sink.taken c.args.out.now) (g.K.Sink.taken c.loop-fault.out) c.loop-fault.session (tt {0})
    (moved.budget ∙ inv.budget) (rw c.in-Ok-End.field-0-is at c.in-Ok-End.ensures.lines) inv.counting.goes

pub returns-in-Err-clause-wrote : goal.returns-in-Err-clause-wrote
returns-in-Err-clause-wrote g c =
    let inv = c.loop-fault.invariant in
    rw c.line_stop.ensures (ends_for_line _ (g.Q.Source.left c.args.source.now) c.loop-fault.lines c.next.new.self (g.Q.Source.left c.loop-fault.source) (g.Q.Source.left c.next.new.source) (g.K.Sink.taken c.args.out.now) (g.K.Sink.taken c.loop-fault.out) c.loop-fault.session c.in-Err.fault
    (c.in-Err.ensures.moves.budget ∙ inv.budget) c.in-Err.ensures.lines inv.counting.goes)

pub returns-in-Err-clause-read_cause : goal.returns-in-Err-clause-read_cause
returns-in-Err-clause-read_cause g c = rw c.line_stop.ensures (read_cause _ _ _ c.in-Err.fault c.loop-fault.invariant.read_faults c.in-Err.ensures.cause)

pub returns-in-Err-clause-write_cause : goal.returns-in-Err-clause-write_cause
returns-in-Err-clause-write_cause g c = rw c.line_stop.ensures (no_write _ _ c.in-Err.fault c.loop-fault.invariant.write_faults)

pub returns-in-Err-play_line-clause-wrote : goal.returns-in-Err-play_line-clause-wrote
returns-in-Err-play_line-clause-wrote g c =
    let inv = c.loop-fault.invariant in
    let moved = rw c.in-Ok-Line.field-0-is at c.in-Ok-Line.ensures.moves in
    ends_in_line _ (g.Q.Source.left c.args.source.now) c.loop-fault.lines c.next.new.self (g.Q.Source.left c.loop-fault.source) (g.Q.Source.left c.next.new.source) (g.K.Sink.taken c.args.out.now) (g.K.Sink.taken c.loop-fault.out) (g.K.Sink.taken c.play_line.new.out) c.loop-fault.session c.play_line.new.session c.in-Err-play_line.stop c.number.result c.text.result.now
    (moved.1.budget ∙ inv.budget) inv.budget c.number.ensures c.text.ensures.value (rw c.in-Ok-Line.field-0-is at c.in-Ok-Line.ensures.lines) inv.counting.goes
    (line_as c.args.session.now.engine.schema c.loop-fault.session.engine.schema c.args.session.now.engine.queries c.loop-fault.session.engine.queries c.number.result c.text.result.now inv.counting.goes.machine c.play_line.new.session
    (g.K.Sink.taken c.loop-fault.out) (g.K.Sink.taken c.play_line.new.out) c.in-Err-play_line.stop inv.same.0 inv.same.1 (c.in-Err-play_line.ensures.ended inv.counting.goes.machine inv.counting.goes.stands))

pub returns-in-Err-play_line-clause-read_cause : goal.returns-in-Err-play_line-clause-read_cause
returns-in-Err-play_line-clause-read_cause g c =
    let inv = c.loop-fault.invariant in
    line_read_cause _ _ _ _ c.in-Err-play_line.stop (c.in-Ok-Line.ensures.cause ∙ inv.read_faults) c.in-Err-play_line.ensures.cause

pub returns-in-Err-play_line-clause-write_cause : goal.returns-in-Err-play_line-clause-write_cause
returns-in-Err-play_line-clause-write_cause g c = line_write_cause _ _ _ c.in-Err-play_line.stop c.loop-fault.invariant.write_faults c.in-Err-play_line.ensures.cause

pub loop-fault-preserved : goal.loop-fault-preserved
loop-fault-preserved g c =
    let inv = c.loop-fault.invariant in
    let moved = rw c.in-Ok-Line.field-0-is at c.in-Ok-Line.ensures.moves in
    let went = went_as _ _ _ _ _ _ _ _ _ inv.same.0 inv.same.1 (c.in-Ok.ensures.ended inv.counting.goes.machine inv.counting.goes.stands) in
    record {
      counting = counting_further c.args.session.now.engine.schema c.args.session.now.engine.queries (g.Q.Source.left c.args.source.now) c.loop-fault.lines c.next.new.self (g.Q.Source.left c.loop-fault.source) (g.Q.Source.left c.next.new.source) (g.K.Sink.taken c.args.out.now) (g.K.Sink.taken c.loop-fault.out) (g.K.Sink.taken c.play_line.new.out) c.loop-fault.session c.play_line.new.session c.text.result.now
          c.args.steps.now c.loop-fault.steps c.play_line.new.steps c.text.ensures.value inv.same.0 inv.same.1 c.play_line.ensures.same (rw c.in-Ok-Line.field-0-is at c.in-Ok-Line.ensures.lines) inv.counting went
          (made_as c.args.session.now.engine.schema c.loop-fault.session.engine.schema c.text.result.now c.loop-fault.session.engine c.play_line.new.session inv.same.0 c.in-Ok.ensures.made)
          (costs_as c.args.session.now.engine.schema c.loop-fault.session.engine.schema c.args.session.now.engine.queries c.loop-fault.session.engine.queries c.text.result.now c.loop-fault.session.engine inv.counting.goes.machine (c.loop-fault.steps + put_by_in c.loop-fault.session) (c.play_line.new.steps + put_by_in c.play_line.new.session) inv.same.0 inv.same.1
          (c.play_line.ensures.costs inv.counting.goes.machine inv.counting.goes.stands));
      going = went.going;
      open_is = moved.1.closed_is;
      counted = omega (arith, c.play_line.ensures.counted, c.number.ensures);
      same = (c.play_line.ensures.same.0 ∙ inv.same.0, c.play_line.ensures.same.1 ∙ inv.same.1);
      budget = moved.1.budget ∙ inv.budget;
      read_faults = c.in-Ok-Line.ensures.cause ∙ inv.read_faults;
      write_faults = c.in-Ok.ensures.cause ∙ inv.write_faults;
    }

pub returns-in-Ok-End-clause-steps : goal.returns-in-Ok-End-clause-steps
returns-in-Ok-End-clause-steps g c =
    let inv = c.loop-fault.invariant in
    counted _ (g.Q.Source.left c.args.source.now) c.loop-fault.lines (g.Q.Source.left c.loop-fault.source) (g.K.Sink.taken c.args.out.now) (g.K.Sink.taken c.loop-fault.out) c.loop-fault.session c.args.steps.now c.loop-fault.steps inv.budget inv.counting

pub returns-in-Err-clause-steps : goal.returns-in-Err-clause-steps
returns-in-Err-clause-steps g c =
    let inv = c.loop-fault.invariant in
    rw c.line_stop.ensures (stop_counts _ (g.Q.Source.left c.args.source.now) c.loop-fault.lines (g.Q.Source.left c.loop-fault.source) (g.K.Sink.taken c.args.out.now) (g.K.Sink.taken c.loop-fault.out) c.loop-fault.session c.args.steps.now c.loop-fault.steps c.in-Err.fault inv.budget inv.counting)

pub returns-in-Err-play_line-clause-steps : goal.returns-in-Err-play_line-clause-steps
returns-in-Err-play_line-clause-steps g c =
    let inv = c.loop-fault.invariant in
    let moved = rw c.in-Ok-Line.field-0-is at c.in-Ok-Line.ensures.moves in
    line_counts _ (g.Q.Source.left c.args.source.now) c.loop-fault.lines c.next.new.self (g.Q.Source.left c.loop-fault.source) (g.Q.Source.left c.next.new.source) (g.K.Sink.taken c.args.out.now) (g.K.Sink.taken c.loop-fault.out) (g.K.Sink.taken c.play_line.new.out) c.loop-fault.session c.play_line.new.session c.in-Err-play_line.stop c.number.result c.text.result.now
    c.args.steps.now c.loop-fault.steps c.play_line.new.steps (moved.1.budget ∙ inv.budget) inv.budget c.text.ensures.value (rw c.in-Ok-Line.field-0-is at c.in-Ok-Line.ensures.lines) inv.counting
    (line_as c.args.session.now.engine.schema c.loop-fault.session.engine.schema c.args.session.now.engine.queries c.loop-fault.session.engine.queries c.number.result c.text.result.now inv.counting.goes.machine c.play_line.new.session
    (g.K.Sink.taken c.loop-fault.out) (g.K.Sink.taken c.play_line.new.out) c.in-Err-play_line.stop inv.same.0 inv.same.1 (c.in-Err-play_line.ensures.ended inv.counting.goes.machine inv.counting.goes.stands))
    (c.in-Err-play_line.ensures.refused inv.counting.goes.machine inv.counting.goes.stands)
    (costs_as c.args.session.now.engine.schema c.loop-fault.session.engine.schema c.args.session.now.engine.queries c.loop-fault.session.engine.queries c.text.result.now c.loop-fault.session.engine inv.counting.goes.machine (c.loop-fault.steps + put_by_in c.loop-fault.session) (c.play_line.new.steps + put_by_in c.play_line.new.session) inv.same.0 inv.same.1
    (c.play_line.ensures.costs inv.counting.goes.machine inv.counting.goes.stands))
