use Rattle.reorder_gate.proofs.Parts.{sorted_parts}
use Rattle.reorder_gate.proofs.laws.sorting_keeps_parts.Goals as goal

pub returns : goal.returns
returns g c = λ part clock list. sorted_parts part clock list
