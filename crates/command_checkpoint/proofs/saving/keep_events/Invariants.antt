use Rattle.std.proofs.Common.{◌≡◌, ◌+◌, ◌≤◌, ℕ, List, false}
use Rattle.checkpoint_text.specs.declared.numbers.TheConstants.{MOST_POSITIONS}
use Rattle.command_checkpoint.specs.Lines.{HasKept}
use Rattle.command_checkpoint.proofs.saving.keep_events.Given as goal

-- the events of the lines so far were kept
abbrev pub invariant-loop-fault : goal.invariant-loop-fault
invariant-loop-fault g l = record {
  open_is : l.lines.closed ≡ false;
  budget : l.lines.budget ≡ l.fn.lines.budget;
  faults : g.Q.Source.faults l.source ≡ g.Q.Source.faults l.fn.source;
  same : l.keep.schema ≡ l.schema;
  queries : l.keep.queries ≡ l.fn.keep.queries;
  room : l.keep.positions + l.lines.room ≤ MOST_POSITIONS;
  kept : (bytes : List ℕ) → HasKept l.schema l.fn.keep.queries l.fn.lines bytes (g.Q.Source.left l.fn.source) l.fn.keep
      → HasKept l.schema l.fn.keep.queries l.lines bytes (g.Q.Source.left l.source) l.keep;
}

abbrev pub decreases-loop-fault : goal.decreases-loop-fault
decreases-loop-fault g l = l.lines.room
