use Rattle.cel_terms.proofs.Undeclared.{left_out, no_attribute}
use Rattle.cel_terms.proofs.laws.undeclared_is_left_out.Goals as goal

pub returns : goal.returns
returns c schema q events end position event h at past = (left_out schema q events end position event h at past, λ name. no_attribute schema event name past)
