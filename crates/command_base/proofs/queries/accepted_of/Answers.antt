use Rattle.ceql_parser.specs.QueryTexts.{accepted_view}
use Rattle.ceql_parser.specs.declared.checking.Accepted.{Accepted}
use Rattle.command_base.proofs.Texts.{refused_in}
use Rattle.command_base.proofs.queries.accepted_of.Goals as goal

pub returns-in-Err-clause-refused : goal.returns-in-Err-clause-refused
returns-in-Err-clause-refused c = refused_in _ Accepted accepted_view c.args.text.now c.in-Err.refusal c.in-Err.ensures.found
