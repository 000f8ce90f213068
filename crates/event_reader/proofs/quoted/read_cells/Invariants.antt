use Rattle.std.proofs.Common.{◌≡◌, length, take}
use Rattle.event_reader.specs.CommonLines.{BeginsNext}
use Rattle.event_reader.proofs.QuotedFields.{CellsReached}
use Rattle.event_reader.proofs.quoted.read_cells.Given as goal

abbrev pub invariant-loop-i : goal.invariant-loop-i
invariant-loop-i l = record {
  long : length l.values.items ≡ length l.kinds;
  read : BeginsNext l.rest → CellsReached l.kinds l.fields l.i (take l.i l.values.items) l.rest;
}
