use Rattle.core_service.proofs.HeldGiven.{give_all_rows}
use Rattle.core_service.proofs.laws.held_cursors_give_all_rows.Goals as goal

pub returns : goal.returns
returns c = give_all_rows
