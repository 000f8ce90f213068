use Rattle.checkpoint_text.proofs.Histories.{spelled, read_so}
use Rattle.checkpoint_text.proofs.laws.histories_are_spelled.Goals as goal

pub returns : goal.returns
returns c = λ schema queries file history. (spelled schema queries file history, λ is. read_so schema queries file history is.0 is.1)
