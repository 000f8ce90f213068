use Rattle.std.proofs.Common.{sym, arith, length, eq-eqb}
use Rattle.std.proofs.lemmas.List.Sums.{position_or_len_is}
use Rattle.event_reader.specs.declared.words.TheConstants.{BLANK}
use Rattle.event_reader.specs.LineWords.{is_blank}
use Rattle.event_reader.proofs.words.blank_at.Goals as goal

pub returns-then-byte-eq-BLANK-clause-place : goal.returns-then-byte-eq-BLANK-clause-place
returns-then-byte-eq-BLANK-clause-place c =
    sym (position_or_len_is is_blank c.args.text.now c.loop-i.i 0 (omega arith) c.loop-i.invariant (λ _. eq-eqb _ BLANK c.if-byte-eq-BLANK.true))

pub returns-clause-place : goal.returns-clause-place
returns-clause-place c =
    sym (position_or_len_is is_blank c.args.text.now (length c.args.text.now) 0 (omega arith) (λ k h. c.loop-i.invariant k (omega arith)) (λ h. absurd (omega arith)))
