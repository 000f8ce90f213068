use Rattle.std.proofs.Common.{◌≤◌, ◌-◌, drop, length}
use Rattle.event_reader.specs.QuotedLines.{IsWalked}
use Rattle.event_reader.proofs.QuotedRuns.{opening}
use Rattle.event_reader.proofs.fields.keep_quoted.Given as goal

abbrev pub invariant-loop-at : goal.invariant-loop-at
invariant-loop-at l = record {
  within : l.at ≤ length l.text;
  walked : IsWalked l.text (opening l.at) l.scratch.items (drop l.at l.text);
}

abbrev pub decreases-loop-at : goal.decreases-loop-at
decreases-loop-at l = length l.text - l.at
