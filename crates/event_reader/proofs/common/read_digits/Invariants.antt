use Rattle.std.proofs.Common.{◌≡◌, ◌<◌, ◌^◌, take, true}
use Rattle.std.specs.Str.{all_ascii_digits}
use Rattle.std.specs.Str.Parse.{digits_value}
use Rattle.event_reader.proofs.common.read_digits.Given as goal

abbrev pub invariant-loop-i : goal.invariant-loop-i
invariant-loop-i l = record {
  small : l.size < 10 ^ l.i;
  are_digits : all_ascii_digits (take l.i l.text) ≡ true;
  spells : l.size ≡ digits_value 10 (take l.i l.text);
}
