use Rattle.command_words.proofs.program.explain.Goals as goal

pub returns : goal.returns
returns c =
    let with_query = c.with_argument-with_query.ensures _ _ c.over_files.ensures c.number.ensures.rule in
    let with_start = c.with_argument-with_start.ensures _ _ with_query c.number-2.ensures.rule in
    let with_end = c.with_argument-with_end.ensures _ _ with_start c.number-3.ensures.rule in
    c.with_argument.ensures _ _ with_end c.numbers.ensures.rule
