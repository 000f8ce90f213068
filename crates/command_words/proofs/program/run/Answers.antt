use Rattle.command_words.proofs.program.run.Goals as goal

pub returns : goal.returns
returns c = c.with_run_options.ensures _ c.over_files.ensures
