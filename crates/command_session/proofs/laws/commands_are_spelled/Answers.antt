use Rattle.command_session.proofs.Spelled.{spelled, read_so}
use Rattle.command_session.proofs.laws.commands_are_spelled.Goals as goal

pub returns : goal.returns
returns c = λ schema text command. (spelled schema text command, read_so schema text command)
