use Rattle.core_service.proofs.HeldGiven.{keep_all_rows}
use Rattle.core_service.proofs.laws.held_cursors_keep_all_rows.Goals as goal

pub returns : goal.returns
returns c = keep_all_rows
