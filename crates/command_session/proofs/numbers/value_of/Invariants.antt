use Rattle.std.proofs.Common.{◌≡◌, drop, ◌<◌, ◌^◌}
use Rattle.std.specs.Str.{all_ascii_digits}
use Rattle.std.specs.Str.Parse.{digits_value_after}
use Rattle.command_session.proofs.numbers.value_of.Given as goal

abbrev pub invariant-loop-digit : goal.invariant-loop-digit
invariant-loop-digit l = record {
  fits : l.sum < 2 ^ 64;
  value : digits_value_after 10 0 l.digits ≡ digits_value_after 10 l.sum (drop l.digit-index l.digits);
  digits : all_ascii_digits l.digits ≡ all_ascii_digits (drop l.digit-index l.digits);
}
