use Rattle.cer_base.proofs.WordBits.{length_bits_of}
use Rattle.cer_base.proofs.bits.Bits.remove.Goals as goal

pub remove-requires : goal.remove-requires
remove-requires c =
    rw c.as_mut_slice.ensures.value (rw (← c.self.view_is, length_bits_of c.self.inside.words.items) at c.requires)
