use Rattle.std.proofs.Common.{◌≡◌, ℕ, ◌+◌, ◌≤◌, List, [], false}
use Rattle.event_reader.specs.LineReaders.{HasGiven}
use Rattle.cer_base.specs.declared.limits.TheConstants.{MOST_BYTES}
use Rattle.checkpoint_text.specs.LastClocks.{last_clocks}
use Rattle.checkpoint_text.specs.ReaderAnswers.{HasTold, SomeTold}
use Rattle.checkpoint_text.proofs.reading.read_on.Given as goal

-- the lines so far have told where it stands, and the events
abbrev pub invariant-loop-lines : goal.invariant-loop-lines
invariant-loop-lines g l = record {
  open_is : l.lines.closed ≡ false;
  budget : l.lines.budget ≡ MOST_BYTES;
  few : l.lines.number + l.lines.room ≤ MOST_BYTES;
  faults : g.Q.Source.faults l.source ≡ g.Q.Source.faults l.fn.source;
  lasts : l.lasts.items ≡ last_clocks l.schema l.queries l.events.items;
  told : (bytes : List ℕ) → HasGiven l.fn.lines bytes (g.Q.Source.left l.fn.source) []
      → HasTold l.schema l.queries l.lines bytes (g.Q.Source.left l.source) (record { stand = l.stand; events = l.events.items });
  so_far : SomeTold l.schema l.queries (record { stand = l.stand; events = l.events.items });
}

abbrev pub decreases-loop-lines : goal.decreases-loop-lines
decreases-loop-lines g l = l.lines.room
