use Rattle.std.proofs.Common.{ℕ, [], None, subst, ◌∙◌}
use Rattle.event_run.specs.Runs.{RunsTo}
use Rattle.event_run.specs.Runs as stop
use Rattle.event_run.specs.Taking.{run_fault}
use Rattle.event_run.specs.Listing.{StopsBy}
use Rattle.event_run.proofs.Given.{at_end}
use Rattle.event_run.proofs.Listed.{no_further, line_added, line_stops}
use Rattle.event_run.proofs.listing.read_on.Goals as goal

pub returns-in-Ok-End-clause-all : goal.returns-in-Ok-End-clause-all
returns-in-Ok-End-clause-all g c = λ bytes had.
    let inv = c.loop-fault.invariant in
    let t = inv.taken bytes had in
    let moved = rw c.in-Ok-End.field-0-is at c.in-Ok-End.ensures.moves in
    subst (λ (n : ℕ). RunsTo c.args.schema.now c.args.queries.now n bytes c.loop-fault.events.items stop.End) (moved.budget ∙ inv.budget)
    (at_end [] c.args.schema.now c.args.queries.now _ bytes t.texts None c.loop-fault.events.items ((rw c.in-Ok-End.field-0-is at c.in-Ok-End.ensures.lines) bytes t.texts t.given) t.good)

pub returns-in-Err-clause-stops : goal.returns-in-Err-clause-stops
returns-in-Err-clause-stops g c = λ bytes had.
    let inv = c.loop-fault.invariant in
    rw c.fault_of.ensures (
    subst (λ (n : ℕ). StopsBy c.args.schema.now c.args.queries.now n bytes (g.Q.Source.left c.next.new.source) (run_fault c.in-Err.fault)) (c.in-Err.ensures.moves.budget ∙ inv.budget)
    (no_further c.args.schema.now c.args.queries.now c.loop-fault.lines c.next.new.self bytes (g.Q.Source.left c.loop-fault.source) (g.Q.Source.left c.next.new.source) c.loop-fault.events.items c.in-Err.fault (c.in-Err.ensures.lines bytes) (inv.taken bytes had)))

pub loop-fault-preserved : goal.loop-fault-preserved
loop-fault-preserved g c =
    let inv = c.loop-fault.invariant in
    let moved = rw c.in-Ok-Line.field-0-is at c.in-Ok-Line.ensures.moves in
    record {
      open_is = moved.1.closed_is;
      budget = moved.1.budget ∙ inv.budget;
      faults = c.in-Ok-Line.ensures.cause ∙ inv.faults;
      taken = λ bytes had.
          line_added c.args.schema.now c.args.queries.now c.loop-fault.lines c.next.new.self bytes (g.Q.Source.left c.loop-fault.source) (g.Q.Source.left c.next.new.source) c.loop-fault.events.items c.add_line.new.events.items
          ((rw c.in-Ok-Line.field-0-is at c.in-Ok-Line.ensures.lines) bytes) c.in-Ok.ensures.added (inv.taken bytes had);
    }

pub returns-in-Err-Fault-clause-stops : goal.returns-in-Err-Fault-clause-stops
returns-in-Err-Fault-clause-stops g c = λ bytes had.
    let inv = c.loop-fault.invariant in
    let moved = rw c.in-Ok-Line.field-0-is at c.in-Ok-Line.ensures.moves in
    rw c.in-Err-Fault.field-0-is (
      c.loop-fault.events.items,
      subst (λ (n : ℕ). RunsTo c.args.schema.now c.args.queries.now n bytes c.loop-fault.events.items (stop.Event c.number-line.result c.in-Err-Fault.fault)) (moved.1.budget ∙ inv.budget)
          (line_stops c.args.schema.now c.args.queries.now c.loop-fault.lines c.next.new.self bytes (g.Q.Source.left c.loop-fault.source) (g.Q.Source.left c.next.new.source) c.loop-fault.events.items c.number-line.result c.in-Err-Fault.fault
          c.number-line.ensures ((rw c.in-Ok-Line.field-0-is at c.in-Ok-Line.ensures.lines) bytes) (rw c.in-Err-Fault.field-0-is at c.in-Err-Fault.ensures.stops) (inv.taken bytes had)),
    )
