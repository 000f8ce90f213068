use Rattle.std.proofs.Common.{ℕ, ◌∙◌, ◌++◌, take, ap, arith}
use Rattle.std.proofs.lemmas.List.{length-take, length-drop}
use Rattle.cer_outside.specs.declared.Failed.{Failed}
use Rattle.event_reader.proofs.LineBufferParts.{new_front, reads_behind}
use Rattle.event_reader.proofs.line_buffer.read_after.Goals as goal

pub returns-in-Ok-clause-bytes : goal.returns-in-Ok-clause-bytes
returns-in-Ok-clause-bytes g c =
    reads_behind Failed _ _ c.args.buffer.now.items _ c.read.new.into c.args.len c.in-Ok.count
    (new_front c.as_mut_slice.result.now c.read.new.into _ _ _ c.args.len c.in-Ok.count
    (omega (arith, c.as_mut_slice.ensures.len))
    (omega (arith, c.in-Ok.ensures.bound, c.read.auto.into, c.as_mut_slice.ensures.len, length-take {A = ℕ}, length-drop {A = ℕ}))
    (omega (arith, c.in-Ok.ensures.bound, c.as_mut_slice.ensures.len, length-take {A = ℕ}, length-drop {A = ℕ}))
    ∙ ap (λ l. take c.args.len l ++ take c.in-Ok.count c.read.new.into) c.as_mut_slice.ensures.value)
    c.in-Ok.ensures.bytes
