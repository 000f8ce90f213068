use Rattle.std.proofs.Common.{None}
use Rattle.reorder_gate.proofs.Fronts.{in_time_ends, one_more_in_time}
use Rattle.reorder_gate.proofs.laws.in_time_grows.Goals as goal

pub returns : goal.returns
returns g c = λ clock late list x. (λ t. in_time_ends clock late list x t, λ both. one_more_in_time clock late None list x both.0 both.1)
