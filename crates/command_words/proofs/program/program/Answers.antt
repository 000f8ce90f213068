use Rattle.command_words.specs.Program.{program}
use Rattle.command_words.proofs.program.program.Goals as goal

pub returns : goal.returns
unfolding program
returns c =
    let with_run = c.with_command-with_run.ensures _ _ c.no_commands.ensures c.run.ensures in
    let with_sample = c.with_command-with_sample.ensures _ _ with_run c.sample.ensures in
    let with_session = c.with_command-with_session.ensures _ _ with_sample c.session.ensures in
    let with_reorder = c.with_command-with_reorder.ensures _ _ with_session c.reorder.ensures in
    let with_explain = c.with_command-with_explain.ensures _ _ with_reorder c.explain.ensures in
    let with_save = c.with_command-with_save.ensures _ _ with_explain c.save.ensures in
    c.with_command.ensures _ _ with_save c.resume.ensures
