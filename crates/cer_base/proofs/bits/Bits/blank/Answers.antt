use Rattle.std.proofs.Common.{◌∙◌}
use Rattle.cer_base.proofs.WordBits.{blank_room, zeros_out}
use Rattle.cer_base.proofs.bits.Bits.blank.Goals as goal

pub returns-clause-room : goal.returns-clause-room
returns-clause-room c = blank_room _ c.args.size (c.in_ok-from_elem.ensures.len ∙ c.div_ceil.ensures)

pub returns-clause-empty : goal.returns-clause-empty
returns-clause-empty c k = rw (c.in_ok-from_elem.ensures.items_if_clones_equal (λ y h. h)) (zeros_out _ k)
