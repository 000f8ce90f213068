use Rattle.std.proofs.Common.{arith}
use Rattle.cer_base.proofs.WordBits.{in_both, in_neither}
use Rattle.cer_base.proofs.words.meets.Goals as goal

pub returns-then-words-i-ne0-clause-some : goal.returns-then-words-i-ne0-clause-some
returns-then-words-i-ne0-clause-some c _ =
    in_both c.args.words.now c.args.other.now c.loop-i.i (omega (arith, c.if-words-i-ne0.true)) (omega (arith, c.type_inv.words c.loop-i.i))

pub returns-clause-none : goal.returns-clause-none
returns-clause-none c _ =
    in_neither c.args.words.now c.args.other.now c.loop-i.i c.loop-i.invariant (omega arith)
