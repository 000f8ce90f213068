use Rattle.std.proofs.Common.{◌≡◌, ◌≤◌, drop}
use Rattle.cer_base.specs.Digits.{read_on}
use Rattle.cer_base.proofs.digits.with_digits.Given as goal

abbrev pub invariant-loop-digit : goal.invariant-loop-digit
invariant-loop-digit l = (l.value ≤ l.limit) × (read_on l.value (drop l.digit-index l.digits) ≡ read_on l.start l.digits)
