use Rattle.query_index.proofs.Covered.{IsLeft}
use Rattle.query_index.proofs.runs.runs_of.Given as goal

abbrev pub invariant-loop-end : goal.invariant-loop-end
invariant-loop-end l = IsLeft l.runs.items l.leaves l.parting.place l.span l.left l.row
