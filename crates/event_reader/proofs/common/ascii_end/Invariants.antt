use Rattle.std.proofs.Common.{◌≡◌, take, false}
use Rattle.std.specs.List.{list_any}
use Rattle.std.specs.Str.{IsAscii}
use Rattle.event_reader.specs.Cells.{is_comma}
use Rattle.event_reader.specs.CommonLines.{is_odd}
use Rattle.event_reader.proofs.common.ascii_end.Given as goal

abbrev pub invariant-loop-i : goal.invariant-loop-i
invariant-loop-i l = record {
  plain : list_any is_odd (take l.i l.text) ≡ false;
  whole : list_any is_comma (take l.i l.text) ≡ false;
  ascii : IsAscii (take l.i l.text);
}
