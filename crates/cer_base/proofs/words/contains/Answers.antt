use Rattle.std.proofs.Common.{sym, arith}
use Rattle.std.proofs.lemmas.List.{get_or_read}
use Rattle.cer_base.proofs.WordBits.{contained, past_end}
use Rattle.cer_base.proofs.words.contains.Goals as goal

pub returns-in-Some : goal.returns-in-Some
returns-in-Some c =
    let within = c.in-Some.ensures.lookup.0 in
    contained c.args.words.now c.args.k c.in-Some.word.now (get_or_read c.args.words.now _ _ (grind (arith, within)) c.in-Some.ensures.lookup.1 0)

pub returns-in-None : goal.returns-in-None
returns-in-None c = sym (past_end c.args.words.now c.args.k (omega (arith, c.in-None.ensures.lookup)))
