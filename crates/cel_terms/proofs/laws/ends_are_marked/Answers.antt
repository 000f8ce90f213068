use Rattle.cel_terms.proofs.Marked.{ends_marked}
use Rattle.cel_terms.proofs.laws.ends_are_marked.Goals as goal

pub returns : goal.returns
returns c = ends_marked
