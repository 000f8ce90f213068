use Rattle.std.proofs.Common.{◌∙◌, arith, length-set}
use Rattle.cer_base.proofs.WordBits.{kept_room, all_out}
use Rattle.cer_base.proofs.words.clear.Goals as goal

pub returns-clause-members : goal.returns-clause-members
returns-clause-members c = all_out c.loop-i.words (λ k h. c.loop-i.invariant k (omega arith))

pub returns-clause-room : goal.returns-clause-room
returns-clause-room c = kept_room c.args.words.now c.loop-i.words (c.loop-i.auto.words ∙ length-set c.args.words.now 0 0)
