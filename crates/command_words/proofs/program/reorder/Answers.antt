use Rattle.command_words.proofs.program.reorder.Goals as goal

pub returns : goal.returns
returns c =
    let with_clock = c.with_argument-with_clock.ensures _ _ c.over_files.ensures c.name.ensures.rule in
    c.with_run_options.ensures _ (c.with_argument.ensures _ _ with_clock c.late.ensures.rule)
