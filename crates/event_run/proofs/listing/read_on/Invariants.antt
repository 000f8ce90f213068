use Rattle.std.proofs.Common.{◌≡◌, ℕ, List, false}
use Rattle.event_run.specs.Taking.{HasTaken}
use Rattle.event_run.proofs.listing.read_on.Given as goal

-- the events so far are those that were taken
abbrev pub invariant-loop-fault : goal.invariant-loop-fault
invariant-loop-fault g l = record {
  open_is : l.lines.closed ≡ false;
  budget : l.lines.budget ≡ l.fn.lines.budget;
  faults : g.Q.Source.faults l.source ≡ g.Q.Source.faults l.fn.source;
  taken : (bytes : List ℕ) → HasTaken l.schema l.queries l.fn.lines bytes (g.Q.Source.left l.fn.source) l.fn.events.items
      → HasTaken l.schema l.queries l.lines bytes (g.Q.Source.left l.source) l.events.items;
}

abbrev pub decreases-loop-fault : goal.decreases-loop-fault
decreases-loop-fault g l = l.lines.room
