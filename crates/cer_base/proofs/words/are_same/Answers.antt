use Rattle.std.proofs.Common.{arith, sym, ap, length, get_or}
use Rattle.std.proofs.lemmas.Grind.{same_number_lists}
use Rattle.cer_base.proofs.WordBits.{same_sets, other_sets}
use Rattle.cer_base.proofs.words.are_same.Goals as goal

pub returns-then-words-other : goal.returns-then-words-other
returns-then-words-other c =
    sym (other_sets c.args.words.now c.args.other.now (λ i. omega (arith, c.type_inv.words i)) (λ i. omega (arith, c.type_inv.other i)) (λ e. c.if-words-other.true (ap length e)))

pub returns-then-words-i : goal.returns-then-words-i
returns-then-words-i c =
    sym (other_sets c.args.words.now c.args.other.now (λ i. omega (arith, c.type_inv.words i)) (λ i. omega (arith, c.type_inv.other i)) (λ e. c.if-words-i.true (ap (λ l. get_or l c.loop-i.i 0) e)))

pub returns : goal.returns
returns c =
    sym (same_sets c.args.words.now c.args.other.now (same_number_lists c.args.words.now c.args.other.now c.if-words-other.false (λ k h. c.loop-i.invariant k (omega arith))))
