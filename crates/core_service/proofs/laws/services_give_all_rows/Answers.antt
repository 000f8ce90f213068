use Rattle.core_service.proofs.Turns.{all_rows}
use Rattle.core_service.proofs.laws.services_give_all_rows.Goals as goal

pub returns : goal.returns
returns c = all_rows
