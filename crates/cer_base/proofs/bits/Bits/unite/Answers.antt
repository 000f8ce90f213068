use Rattle.cer_base.proofs.WordBits.{same_lengths}
use Rattle.cer_base.proofs.bits.Bits.unite.Goals as goal

pub unite-requires : goal.unite-requires
unite-requires c =
    rw (c.as_mut_slice.ensures.value, c.as_slice.ensures) (same_lengths c.self.inside.words.items c.other.inside.words.items (rw (← c.self.view_is, ← c.other.view_is) at c.requires))
