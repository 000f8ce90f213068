use Rattle.reorder_gate.proofs.Placing.{sorted_orders}
use Rattle.reorder_gate.proofs.laws.sorting_orders.Goals as goal

pub returns : goal.returns
returns g c = λ clock list. sorted_orders clock list
