use Rattle.command_session.proofs.EngineTalk.{talked}
use Rattle.command_session.proofs.laws.steps_are_engine_steps.Goals as goal

pub returns : goal.returns
returns c = λ schema queries command old new bytes. talked schema queries command old new bytes
