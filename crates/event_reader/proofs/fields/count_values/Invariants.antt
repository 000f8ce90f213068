use Rattle.std.proofs.Common.{◌≤◌, drop}
use Rattle.event_reader.proofs.RefusedLines.{IsCountedTo}
use Rattle.event_reader.proofs.fields.count_values.Given as goal

abbrev pub invariant-loop-byte : goal.invariant-loop-byte
invariant-loop-byte l = record {
  few : l.count ≤ l.byte-index;
  read : IsCountedTo l.line l.state l.count (drop l.byte-index l.line);
}
