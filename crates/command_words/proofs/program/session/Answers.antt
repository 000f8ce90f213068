use Rattle.command_words.proofs.program.session.Goals as goal

pub returns : goal.returns
returns c =
    let with_queries = c.with_argument-with_queries.ensures _ _ c.new.ensures.app c.name.ensures.rule in
    c.with_argument.ensures _ _ with_queries c.name-2.ensures.rule
