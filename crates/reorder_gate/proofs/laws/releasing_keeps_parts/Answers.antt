use Rattle.reorder_gate.proofs.Parts.{released_parts}
use Rattle.reorder_gate.proofs.laws.releasing_keeps_parts.Goals as goal

pub returns : goal.returns
returns g c = λ part clock late list. released_parts part clock late list
