use Rattle.event_update.proofs.Passing.{no_op_stand, no_op_stay}
use Rattle.event_update.proofs.dormancy.no_op_lists_stand.Goals as goal

pub returns-clause-stand : goal.returns-clause-stand
returns-clause-stand c = no_op_stand

pub returns-clause-stay : goal.returns-clause-stay
returns-clause-stay c = no_op_stay
