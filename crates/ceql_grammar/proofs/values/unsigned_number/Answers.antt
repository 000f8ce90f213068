use Rattle.std.proofs.Common.{arith, sym, ◌∙◌, drop, get_or, ◌+◌, ◌*◌, ◌-◌}
use Rattle.std.specs.Prelude.{filter}
use Rattle.std.specs.Char.{is_ascii_digit}
use Rattle.ceql_grammar.proofs.NumbersAndStrings.{digit_step}
use Rattle.cer_base.proofs.DigitLemmas.{read_on_grows}
use Rattle.ceql_grammar.proofs.values.unsigned_number.Goals as goal

pub returns-in-None : goal.returns-in-None
returns-in-None c =
    omega (arith, c.in-None.ensures, c.loop-byte.invariant.1, digit_step c.loop-byte.value c.args.text.now c.loop-byte.byte-index c.loop-byte-test.true (sym c.is_ascii_digit.ensures.value ∙ c.if-is_ascii_digit.true), read_on_grows (c.loop-byte.value * 10 + (get_or c.args.text.now c.loop-byte.byte-index 0 - 48)) (filter is_ascii_digit (drop (c.loop-byte.byte-index + 1) c.args.text.now)))
