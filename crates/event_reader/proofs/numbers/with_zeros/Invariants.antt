use Rattle.std.proofs.Common.{◌≡◌, ◌-◌, replicate, ◌<◌, ◌^◌}
use Rattle.std.specs.Str.Parse.{digits_value_after}
use Rattle.event_reader.proofs.numbers.with_zeros.Given as goal

abbrev pub invariant-loop : goal.invariant-loop
invariant-loop l = record {
  fits : l.sum < 2 ^ 64;
  value : digits_value_after 10 l.fn.size (replicate l.fn.count 48) ≡ digits_value_after 10 l.sum (replicate (l.fn.count - l.counter) 48);
}
