use Rattle.reorder_gate.proofs.Fitting.{told}
use Rattle.reorder_gate.proofs.laws.fitting_clocks_are_told.Goals as goal

pub returns : goal.returns
returns c = told
