use Rattle.command_words.proofs.program.sample.Goals as goal

pub returns : goal.returns
returns c =
    let with_seed = c.with_argument-with_seed.ensures _ _ c.new.ensures.app c.number.ensures.rule in
    c.with_argument.ensures _ _ with_seed c.count.ensures.rule
