use Rattle.cer_base.proofs.WordBits.{same_lengths}
use Rattle.cer_base.proofs.bits.Bits.meets.Goals as goal

pub meets-requires : goal.meets-requires
meets-requires c =
    rw (c.as_slice.ensures, c.as_slice-2.ensures) (same_lengths c.self.inside.words.items c.other.inside.words.items (rw (← c.self.view_is, ← c.other.view_is) at c.requires))
