use Rattle.cer_base.proofs.WordBits.{below_room}
use Rattle.cer_base.proofs.bits.Bits.has_room_for.Goals as goal

pub returns : goal.returns
returns c = rw (c.len.ensures.value, ← c.self.view_is) (below_room c.self.inside.words.items c.args.k)
