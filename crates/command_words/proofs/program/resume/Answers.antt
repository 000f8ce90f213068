use Rattle.command_words.proofs.program.resume.Goals as goal

pub returns : goal.returns
returns c =
    let with_queries = c.with_argument-with_queries.ensures _ _ c.new.ensures.app c.name.ensures.rule in
    let with_checkpoint = c.with_argument-with_checkpoint.ensures _ _ with_queries c.name-2.ensures.rule in
    c.with_run_options.ensures _ (c.with_argument-with_events.ensures _ _ with_checkpoint c.name-3.ensures.rule)
