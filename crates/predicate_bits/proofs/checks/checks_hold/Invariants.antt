use Rattle.std.proofs.Common.{◌≡◌, true, take}
use Rattle.predicate_bits.specs.Checks.{all_checks_hold}
use Rattle.predicate_bits.proofs.checks.checks_hold.Given as goal

abbrev pub invariant-loop-check : goal.invariant-loop-check
invariant-loop-check l = all_checks_hold (take l.check-index l.checks) l.event ≡ true
