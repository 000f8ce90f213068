use Rattle.command_words.proofs.Building.{argued}
use Rattle.command_words.proofs.program.with_argument.Goals as goal

pub returns : goal.returns
returns c = argued c.args.command c.arg.result c.in_ok-command.field-0 c.args.argument c.in_ok-command.was c.requires c.arg.ensures
