use Rattle.reorder_gate.proofs.OnlyOne.{only_sorted}
use Rattle.reorder_gate.proofs.laws.sorted_is_unique.Goals as goal

pub returns : goal.returns
returns g c = λ clock came list order. only_sorted clock came list order
