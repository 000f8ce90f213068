use Rattle.std.proofs.Common.{arith, drop, get_or, ◌+◌, ◌*◌, ◌-◌}
use Rattle.cer_base.proofs.DigitLemmas.{read_on_grows, read_on_step}
use Rattle.cer_base.proofs.digits.with_digits.Goals as goal

pub returns-in-None : goal.returns-in-None
returns-in-None c =
    omega (arith, c.in-None.ensures, read_on_step c.loop-digit.value c.args.digits.now c.loop-digit.digit-index c.loop-digit-test.true, read_on_grows (c.loop-digit.value * 10 + (get_or c.args.digits.now c.loop-digit.digit-index 0 - 48)) (drop (c.loop-digit.digit-index + 1) c.args.digits.now))
