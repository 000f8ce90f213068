use Rattle.std.proofs.Common.{[]}
use Rattle.reorder_gate.proofs.Placing.{onto_moves}
use Rattle.reorder_gate.proofs.laws.sorting_moves.Goals as goal

pub returns : goal.returns
returns g c = λ clock list. onto_moves clock [] list
