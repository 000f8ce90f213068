use Rattle.reorder_gate.proofs.Fronts.{final}
use Rattle.reorder_gate.proofs.laws.released_is_final.Goals as goal

pub returns : goal.returns
returns g c = λ clock late list more t. final clock late list more t
