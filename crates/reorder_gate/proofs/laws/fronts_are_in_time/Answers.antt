use Rattle.reorder_gate.proofs.Fronts.{front_in_time}
use Rattle.reorder_gate.proofs.laws.fronts_are_in_time.Goals as goal

pub returns : goal.returns
returns g c = λ clock late list more t. front_in_time clock late _ list more t
