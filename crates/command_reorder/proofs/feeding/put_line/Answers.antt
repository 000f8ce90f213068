use Rattle.std.proofs.Common.{ℕ, refl, sym, ◌∙◌, subst}
use Rattle.event_run.specs.Runs as stop
use Rattle.command_reorder.specs.Gated.{Feeds}
use Rattle.command_reorder.proofs.FedLines.{line_fed, line_stops, no_line, no_more}
use Rattle.command_reorder.proofs.feeding.put_line.Goals as goal

pub returns-in-Ok-End-clause-put : goal.returns-in-Ok-End-clause-put
returns-in-Ok-End-clause-put g c = λ f bytes put gone sits same most stands fed.
    no_more f bytes c.args.lines.now c.next.new.self (g.Q.Source.left c.args.source.now) (g.Q.Source.left c.next.new.source) put
    ((rw c.in-Ok-End.field-0-is at c.in-Ok-End.ensures.moves).budget ∙ sym most) fed (rw c.in-Ok-End.field-0-is at c.in-Ok-End.ensures.lines)

pub returns-in-Err-clause-put : goal.returns-in-Err-clause-put
returns-in-Err-clause-put g c = λ f bytes put gone sits same most stands fed.
    rw c.fault_of.ensures (
    no_line f bytes c.args.lines.now c.next.new.self (g.Q.Source.left c.args.source.now) (g.Q.Source.left c.next.new.source) c.args.gate.now put gone c.in-Err.fault
    (c.in-Err.ensures.moves.budget ∙ sym most) fed c.in-Err.ensures.lines)

pub returns-in-Ok-clause-put : goal.returns-in-Ok-clause-put
returns-in-Ok-clause-put g c = λ f bytes put gone sits same most stands fed.
    let one = c.in-Ok.ensures.put f put gone sits same stands in (
      one.0,
      one.1,
      line_fed f bytes c.args.lines.now c.next.new.self (g.Q.Source.left c.args.source.now) (g.Q.Source.left c.next.new.source) c.next.new.self.number put one.0 refl fed
          (rw c.in-Ok-Line.field-0-is at c.in-Ok-Line.ensures.lines) one.2,
    )

pub returns-in-Err-Fault-clause-put : goal.returns-in-Err-Fault-clause-put
returns-in-Err-Fault-clause-put g c = λ f bytes put gone sits same most stands fed.
    let stops = (rw c.in-Err-Fault.field-0-is at c.in-Err-Fault.ensures.put) f put gone sits same stands in
    let N : ℕ → Type 0 = λ n. Feeds f bytes put (stop.Event n c.in-Err-Fault.fault) in
    subst N (sym c.number-line.ensures) (
    line_stops f bytes c.args.lines.now c.next.new.self (g.Q.Source.left c.args.source.now) (g.Q.Source.left c.next.new.source) c.next.new.self.number put (stop.Event c.next.new.self.number c.in-Err-Fault.fault) refl
    ((rw c.in-Ok-Line.field-0-is at c.in-Ok-Line.ensures.moves).1.budget ∙ sym most) fed (rw c.in-Ok-Line.field-0-is at c.in-Ok-Line.ensures.lines) stops)
