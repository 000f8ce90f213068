use Rattle.reorder_gate.proofs.Standing.{gone_stays}
use Rattle.reorder_gate.proofs.laws.gone_is_final.Goals as goal

pub returns : goal.returns
returns c = gone_stays
