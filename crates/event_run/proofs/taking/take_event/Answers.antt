use Rattle.std.proofs.Common.{◌+◌, ◌≤◌, None, refl, subst, ◌∙◌, arith}
use Rattle.query_engine.specs.Bounds.{update_bound}
use Rattle.query_engine.specs.Engine.{EngineState, found_of, len_of}
use Rattle.query_engine.specs.Keys.{HasAddedKeys}
use Rattle.query_engine.specs.Windows.{HasAdded}
use Rattle.event_run.proofs.Given.{at_end, begins}
use Rattle.event_run.proofs.RanOut.{wants_as}
use Rattle.event_run.proofs.LineTaken.{begins_before, no_line, taken_empty, taken_event, stopped_line}
use Rattle.event_run.proofs.taking.take_event.Goals as goal

pub returns-in-Ok-End-clause-took : goal.returns-in-Ok-End-clause-took
returns-in-Ok-End-clause-took g c = λ before events stands. (
  c.loop-fault.invariant.stands events stands,
  λ bytes had.
      let t = c.loop-fault.invariant.taken before events stands bytes had in
      at_end before _ _ _ bytes t.texts None events ((rw c.in-Ok-End.field-0-is at c.in-Ok-End.ensures.lines) bytes t.texts t.given) t.good,
)

pub returns-in-Err-clause-took : goal.returns-in-Err-clause-took
returns-in-Err-clause-took g c = λ before events stands.
    rw c.fault_of.ensures (no_line before _ _ c.loop-fault.lines c.next.new.self c.args.engine.now c.loop-fault.engine (g.Q.Source.left c.loop-fault.source) (g.Q.Source.left c.next.new.source) _ events c.in-Err.fault
    c.in-Err.ensures.lines (c.loop-fault.invariant.taken before events stands) (c.loop-fault.invariant.stands events stands))

pub returns-in-Ok-true-clause-took : goal.returns-in-Ok-true-clause-took
returns-in-Ok-true-clause-took g c = λ before events stands.
    let inv = c.loop-fault.invariant in
    let took = (rw c.in-Ok-true.field-0-test at c.in-Ok-true.ensures.took) events (inv.stands events stands) in (
      took.0,
      took.2,
      λ bytes had.
          taken_event before _ _ _ _ c.loop-fault.lines c.next.new.self bytes (g.Q.Source.left c.loop-fault.source) (g.Q.Source.left c.next.new.source) events took.0 inv.same.0 inv.same.1
          ((rw c.in-Ok-Line.field-0-is at c.in-Ok-Line.ensures.lines) bytes) took.1 took.3 (inv.taken before events stands bytes had),
      subst (λ (e : EngineState). HasAdded e c.give_line.new.engine took.0) inv.kept took.4,
      subst (λ (e : EngineState). HasAddedKeys e c.give_line.new.engine took.0) inv.kept took.5,
    )

pub returns-in-Ok-true-clause-growth : goal.returns-in-Ok-true-clause-growth
returns-in-Ok-true-clause-growth g c = λ taken query.
    let grown = (rw c.in-Ok-true.field-0-test at c.in-Ok-true.ensures.growth) refl query in
    subst (λ (e : EngineState). len_of c.give_line.new.engine query ≤ len_of e query + update_bound (found_of c.give_line.new.engine query)) c.loop-fault.invariant.kept grown

pub returns-in-Err-Memory-clause-took : goal.returns-in-Err-Memory-clause-took
returns-in-Err-Memory-clause-took g c = λ before events stands.
    let inv = c.loop-fault.invariant in
    let took = (rw c.in-Err-Memory.field-0-is at c.in-Err-Memory.ensures.took) events (inv.stands events stands) in (
      took,
      λ bytes had.
          begins_before before _ _ c.loop-fault.lines c.next.new.self bytes (g.Q.Source.left c.loop-fault.source) (g.Q.Source.left c.next.new.source) events
          (rw c.in-Ok-Line.field-0-is at c.in-Ok-Line.ensures.moves).1.budget (inv.taken before events stands bytes had),
    )

pub returns-in-Err-Fault-clause-took : goal.returns-in-Err-Fault-clause-took
returns-in-Err-Fault-clause-took g c = λ before events stands.
    let inv = c.loop-fault.invariant in
    let took = (rw c.in-Err-Fault.field-0-is at c.in-Err-Fault.ensures.took) events (inv.stands events stands) in (
      took.0,
      λ bytes had. rw c.in-Err-Fault.field-0-is (
          stopped_line before _ _ _ _ c.loop-fault.lines c.next.new.self bytes (g.Q.Source.left c.loop-fault.source) (g.Q.Source.left c.next.new.source) events c.number-line.result c.in-Err-Fault.fault inv.same.0 inv.same.1
          c.number-line.ensures ((rw c.in-Ok-Line.field-0-is at c.in-Ok-Line.ensures.lines) bytes) took.1 (inv.taken before events stands bytes had)),
    )

pub loop-fault-preserved : goal.loop-fault-preserved
loop-fault-preserved g c =
    let inv = c.loop-fault.invariant in
    let moved = rw c.in-Ok-Line.field-0-is at c.in-Ok-Line.ensures.moves in
    let took = rw c.in-Ok-false.field-0-test at c.in-Ok-false.ensures.took in
    let skipped = rw c.in-Ok-false.field-0-test at c.in-Ok-false.ensures.skipped in
    let kept = rw c.in-Ok-false.field-0-test at c.in-Ok-false.ensures.kept in
    record {
      open_is = moved.1.closed_is;
      counted = (let more = c.give_line.ensures.counted in let least = moved.0 in let less = moved.1.room_within in let before = inv.counted in omega (arith, more, least, less, before));
      same = (c.give_line.ensures.same.0 ∙ inv.same.0, c.give_line.ensures.same.1 ∙ inv.same.1);
      kept = kept refl ∙ inv.kept;
      budget = moved.1.budget ∙ inv.budget;
      room = omega (arith, moved.1.room_within, inv.room);
      faults = c.in-Ok-Line.ensures.cause ∙ inv.faults;
      steps = skipped refl ∙ inv.steps;
      stands = λ events stands. (took events (inv.stands events stands)).1;
      taken = λ before events stands bytes had.
          taken_empty before _ _ _ c.loop-fault.lines c.next.new.self bytes (g.Q.Source.left c.loop-fault.source) (g.Q.Source.left c.next.new.source) events inv.same.0
          ((rw c.in-Ok-Line.field-0-is at c.in-Ok-Line.ensures.lines) bytes) (took events (inv.stands events stands)).0 (inv.taken before events stands bytes had);
    }

pub returns-in-Err-Memory-clause-wanting_steps : goal.returns-in-Err-Memory-clause-wanting_steps
returns-in-Err-Memory-clause-wanting_steps g c = λ before events stands.
    let inv = c.loop-fault.invariant in
    wants_as _ _ _ _ events _ _ _ _ _ inv.same.0 inv.same.1 inv.steps
    (λ next is bytes had. begins before _ _ c.next.new.self bytes (g.Q.Source.left c.next.new.source) _
    (taken_event before _ _ _ _ c.loop-fault.lines c.next.new.self bytes (g.Q.Source.left c.loop-fault.source) (g.Q.Source.left c.next.new.source) events next inv.same.0 inv.same.1
    ((rw c.in-Ok-Line.field-0-is at c.in-Ok-Line.ensures.lines) bytes) is.0 is.1 (inv.taken before events stands bytes had)))
    ((rw c.in-Err-Memory.field-0-is at c.in-Err-Memory.ensures.wanting_steps) events (inv.stands events stands))

-- ROOM: each line takes some, so there is room for an event

pub give_line-requires : goal.give_line-requires
give_line-requires g c =
    let before = c.loop-fault.invariant.counted in
    let moved = rw c.in-Ok-Line.field-0-is at c.in-Ok-Line.ensures.moves in
    let some = moved.0 in
    record { counted = omega (arith, before, some) }

pub returns-in-Ok-End-clause-counted : goal.returns-in-Ok-End-clause-counted
returns-in-Ok-End-clause-counted g c =
    let before = c.loop-fault.invariant.counted in
    let within = (rw c.in-Ok-End.field-0-is at c.in-Ok-End.ensures.moves).room_within in
    omega (arith, before, within)

pub returns-in-Err-clause-counted : goal.returns-in-Err-clause-counted
returns-in-Err-clause-counted g c =
    let before = c.loop-fault.invariant.counted in
    let within = c.in-Err.ensures.moves.room_within in
    omega (arith, before, within)

pub returns-in-Ok-true-clause-counted : goal.returns-in-Ok-true-clause-counted
returns-in-Ok-true-clause-counted g c =
    let before = c.loop-fault.invariant.counted in
    let moved = rw c.in-Ok-Line.field-0-is at c.in-Ok-Line.ensures.moves in
    let some = moved.0 in
    let within = moved.1.room_within in
    let more = c.give_line.ensures.counted in
    omega (arith, before, some, within, more)

pub returns-in-Err-Memory-clause-counted : goal.returns-in-Err-Memory-clause-counted
returns-in-Err-Memory-clause-counted g c =
    let before = c.loop-fault.invariant.counted in
    let moved = rw c.in-Ok-Line.field-0-is at c.in-Ok-Line.ensures.moves in
    let some = moved.0 in
    let within = moved.1.room_within in
    let more = c.give_line.ensures.counted in
    omega (arith, before, some, within, more)

pub returns-in-Err-Fault-clause-counted : goal.returns-in-Err-Fault-clause-counted
returns-in-Err-Fault-clause-counted g c =
    let before = c.loop-fault.invariant.counted in
    let moved = rw c.in-Ok-Line.field-0-is at c.in-Ok-Line.ensures.moves in
    let some = moved.0 in
    let within = moved.1.room_within in
    let more = c.give_line.ensures.counted in
    omega (arith, before, some, within, more)
