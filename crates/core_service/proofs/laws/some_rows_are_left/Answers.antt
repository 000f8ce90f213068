use Rattle.core_service.proofs.Left.{some_left}
use Rattle.core_service.proofs.laws.some_rows_are_left.Goals as goal

pub returns : goal.returns
returns c = λ service events. some_left service.engine service.answers events
