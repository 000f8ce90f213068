use Rattle.reorder_gate.proofs.Fronts.{grows}
use Rattle.reorder_gate.proofs.laws.released_grows.Goals as goal

pub returns : goal.returns
returns g c = λ clock late list more t. grows clock late list more t
