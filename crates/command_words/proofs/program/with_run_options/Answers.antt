use Rattle.command_words.proofs.program.with_run_options.Goals as goal

pub returns : goal.returns
returns c = λ app is_app.
    let with_order = c.with_argument-with_order.ensures _ _ is_app c.option.ensures.rule in
    let with_compaction = c.with_argument-with_compaction.ensures _ _ with_order c.compact_every.ensures.rule in
    c.with_argument.ensures _ _ with_compaction c.most_bytes.ensures.rule
