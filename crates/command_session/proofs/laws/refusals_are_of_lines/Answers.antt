use Rattle.command_session.proofs.Spelled.{refused, refuses_so}
use Rattle.command_session.proofs.laws.refusals_are_of_lines.Goals as goal

pub returns : goal.returns
returns c = λ schema text refusal. (refused schema text refusal, refuses_so schema text refusal)
