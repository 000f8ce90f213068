use Rattle.std.proofs.Common.{arith, ap, ◌∙◌}
use Rattle.std.specs.Prelude.{fold, flat_map}
use Rattle.std.specs.Hash as fed
use Rattle.std.proofs.lemmas.List.{take_all}
use Rattle.cer_base.proofs.WordBits.{words_of-bits_of_words}
use Rattle.cer_base.proofs.words.hash.Goals as goal

pub returns : goal.returns
returns g c =
    let ws = c.args.words.now in
    rw (words_of-bits_of_words ws (λ i. omega (arith, c.type_inv.words i)))
    (c.loop-i.invariant ∙ ap (λ l. fold g.H.Hasher.write c.args.state.now (flat_map fed.u64 l)) (take_all c.loop-i.i ws (omega arith)))
