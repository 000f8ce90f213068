use Rattle.command_session.proofs.StopsOnce.{stops_once}
use Rattle.command_session.proofs.laws.scripts_stop_once.Goals as goal

pub returns : goal.returns
returns c = λ schema queries others most script bytes again halt end same one other. stops_once schema queries others most script bytes again halt end same one other
