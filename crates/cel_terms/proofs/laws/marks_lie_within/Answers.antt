use Rattle.cel_terms.proofs.Marked.{marks_within}
use Rattle.cel_terms.proofs.laws.marks_lie_within.Goals as goal

pub returns : goal.returns
returns c = marks_within
