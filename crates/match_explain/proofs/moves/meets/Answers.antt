use Rattle.cer_base.specs.Bits.{has}
use Rattle.match_explain.proofs.Following.{meets_is}
use Rattle.match_explain.proofs.moves.meets.Goals as goal

pub returns : goal.returns
returns c = meets_is (has c.args.a.now) (has c.args.b.now) c.args.size c.meets.result c.requires.a.below c.meets.ensures.some c.meets.ensures.none
