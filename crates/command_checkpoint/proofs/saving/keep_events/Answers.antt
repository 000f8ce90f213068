use Rattle.std.proofs.Common.{ℕ, subst, ◌∙◌, arith}
use Rattle.event_run.specs.Taking.{run_fault}
use Rattle.event_run.specs.declared.RunFault.TheVariants as fault
use Rattle.event_run.specs.Listing.{StopsBy}
use Rattle.command_checkpoint.specs.Lines.{HasKeptAll}
use Rattle.command_checkpoint.proofs.KeptLines.{line_added, line_stops, no_further, all_kept, stays}
use Rattle.command_checkpoint.proofs.saving.keep_events.Goals as goal

pub returns-in-Ok-End-clause-all : goal.returns-in-Ok-End-clause-all
returns-in-Ok-End-clause-all g c = λ bytes had.
    let inv = c.loop-fault.invariant in
    let moved = rw c.in-Ok-End.field-0-is at c.in-Ok-End.ensures.moves in
    subst (λ (n : ℕ). HasKeptAll c.args.schema.now c.args.keep.now.queries n bytes c.loop-fault.keep) (moved.budget ∙ inv.budget)
    (all_kept c.args.schema.now c.args.keep.now.queries c.loop-fault.lines c.next.new.self.budget bytes (g.Q.Source.left c.loop-fault.source) c.loop-fault.keep
    ((rw c.in-Ok-End.field-0-is at c.in-Ok-End.ensures.lines) bytes) (inv.kept bytes had))

pub returns-in-Err-clause-stops : goal.returns-in-Err-clause-stops
returns-in-Err-clause-stops g c = λ bytes had.
    let inv = c.loop-fault.invariant in
    rw c.fault_of.ensures (
    subst (λ (n : ℕ). StopsBy c.args.schema.now c.args.keep.now.queries n bytes (g.Q.Source.left c.next.new.source) (run_fault c.in-Err.fault)) (c.in-Err.ensures.moves.budget ∙ inv.budget)
    (no_further c.args.schema.now c.args.keep.now.queries c.loop-fault.lines c.next.new.self bytes (g.Q.Source.left c.loop-fault.source) (g.Q.Source.left c.next.new.source) c.loop-fault.keep c.in-Err.fault
    (c.in-Err.ensures.lines bytes) (inv.kept bytes had)))

pub returns-in-Err-Fault-clause-stops : goal.returns-in-Err-Fault-clause-stops
returns-in-Err-Fault-clause-stops g c = λ bytes had.
    let inv = c.loop-fault.invariant in
    let moved = rw c.in-Ok-Line.field-0-is at c.in-Ok-Line.ensures.moves in
    let checked = c.requires.checked in
    rw c.in-Err-Fault.field-0-is (
    subst (λ (n : ℕ). StopsBy c.args.schema.now c.args.keep.now.queries n bytes (g.Q.Source.left c.next.new.source) (fault.Event c.number-line.result c.in-Err-Fault.fault)) (moved.1.budget ∙ inv.budget)
    (line_stops c.args.schema.now c.args.keep.now.queries c.loop-fault.lines c.next.new.self bytes (g.Q.Source.left c.loop-fault.source) (g.Q.Source.left c.next.new.source) c.loop-fault.keep c.number-line.result c.in-Err-Fault.fault
    c.well_declared.ensures checked c.number-line.ensures ((rw c.in-Ok-Line.field-0-is at c.in-Ok-Line.ensures.lines) bytes) (rw c.in-Err-Fault.field-0-is at c.in-Err-Fault.ensures.stops) (inv.kept bytes had)))

pub loop-fault-preserved : goal.loop-fault-preserved
loop-fault-preserved g c =
    let inv = c.loop-fault.invariant in
    let moved = rw c.in-Ok-Line.field-0-is at c.in-Ok-Line.ensures.moves in
    let with = stays c.args.schema.now c.next.new.self.text c.loop-fault.keep c.keep_line.new.keep c.in-Ok.ensures.added in
    let more = with.one_more in
    let some = moved.0 in
    let less = moved.1.room_within in
    let room = inv.room in
    record {
      open_is = moved.1.closed_is;
      budget = moved.1.budget ∙ inv.budget;
      faults = c.in-Ok-Line.ensures.cause ∙ inv.faults;
      same = with.schema ∙ inv.same;
      queries = with.queries ∙ inv.queries;
      room = omega (arith, more, some, less, room);
      kept = λ bytes had.
          line_added c.args.schema.now c.args.keep.now.queries c.loop-fault.lines c.next.new.self bytes (g.Q.Source.left c.loop-fault.source) (g.Q.Source.left c.next.new.source) c.loop-fault.keep c.keep_line.new.keep
          c.well_declared.ensures ((rw c.in-Ok-Line.field-0-is at c.in-Ok-Line.ensures.lines) bytes) c.in-Ok.ensures.added (inv.kept bytes had);
    }
