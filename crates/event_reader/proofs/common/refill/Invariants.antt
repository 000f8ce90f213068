use Rattle.std.proofs.Common.{◌≡◌, length}
use Rattle.event_reader.proofs.common.refill.Given as goal

abbrev pub invariant-loop : goal.invariant-loop
invariant-loop l = length l.values.items ≡ l.counter
