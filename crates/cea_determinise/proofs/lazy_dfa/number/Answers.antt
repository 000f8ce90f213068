use Rattle.std.proofs.Common.{arith}
use Rattle.cea_determinise.proofs.Growth.{number_is}
use Rattle.cea_determinise.proofs.lazy_dfa.number.Goals as goal

pub returns-in_ok-index-in-Some-clause-numbered : goal.returns-in_ok-index-in-Some-clause-numbered
returns-in_ok-index-in-Some-clause-numbered c =
    let e = c.in_ok-index-in-Some.ensures in
    number_is c.insert_full.new.self.keys c.in_ok-index-in-Some.index _ c.in-Some.state_sets e.stored.0 c.args.state_sets c.in-Some.is e.stored.1 e.stored.2 e.within (omega (arith, c.min.ensures, c.len.ensures.len, e.within))
