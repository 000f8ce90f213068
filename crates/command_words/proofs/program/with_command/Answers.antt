use Rattle.command_words.proofs.Building.{added}
use Rattle.command_words.proofs.program.with_command.Goals as goal

pub returns : goal.returns
returns c = added c.args.program c.args.command c.subcommand.result c.in_ok-program.field-0 c.in_ok-command.field-0 c.in_ok-program.was c.in_ok-command.was c.requires c.subcommand.ensures
