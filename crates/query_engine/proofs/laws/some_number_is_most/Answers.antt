use Rattle.query_engine.proofs.Finite.{some_number_is_most}
use Rattle.query_engine.proofs.laws.some_number_is_most.Goals as goal

pub returns : goal.returns
returns c = some_number_is_most
