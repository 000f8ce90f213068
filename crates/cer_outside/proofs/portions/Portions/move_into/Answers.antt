use Rattle.std.proofs.Common.{ℕ, length, ap, arith}
use Rattle.std.proofs.lemmas.List.{length-take, length-drop}
use Rattle.cer_outside.proofs.Parts.{moved_front}
use Rattle.cer_outside.proofs.portions.Portions.move_into.Goals as goal

pub returns-clause-moved : goal.returns-clause-moved
returns-clause-moved c =
    let same = c.as_slice.ensures.value in
    moved_front c.self.inside.bytes.items _ c.args.into.now c.copy_from_slice.new.self c.self.inside.given c.min-count.result
    (cc)
    (omega (arith, c.self.invariant.0))
    (omega (arith, ap length same, length-take {A = ℕ}, length-drop {A = ℕ}))
    (omega (arith, ap length same, length-take {A = ℕ}, length-drop {A = ℕ}))
    (cc (c.copy_from_slice.ensures.after, same))
