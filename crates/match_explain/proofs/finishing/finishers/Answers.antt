use Rattle.std.proofs.Common.{◌≡◌, ◌-◌, ◌<◌, suc, length, arith}
use Rattle.cea_determinise.specs.Cea.{automaton_of_cea}
use Rattle.match_explain.proofs.Walked.{gone_more}
use Rattle.match_explain.proofs.finishing.finishers.Goals as goal

pub loop-i-preserved : goal.loop-i-preserved
loop-i-preserved c =
    let next : c.loop-i.i ≡ suc (c.loop-i.i - 1) = omega (arith, c.loop-i-test.true) in
    let less : c.loop-i.i - 1 < length c.args.turns.now = omega (arith, c.loop-i-test.true, c.loop-i.auto.i) in
    let g = gone_more (automaton_of_cea c.args.cea.now) c.args.turns.now (c.loop-i.i - 1) c.loop-i.i _ c.loop-i.ahead c.loop-i.sets.items c.push.new.self.items c.in_ok-set.set c.in_ok-just.just c.in_ok-earlier.earlier next less c.index-turns-i.is c.in_ok-push.ensures.items c.loop-i.invariant.ahead c.loop-i.invariant.sets c.in_ok-set.ensures.set c.in_ok-set.ensures.members c.in_ok-just.ensures.members c.in_ok-just.ensures.set c.in_ok-earlier.ensures.members c.in_ok-earlier.ensures.set in
    record { ahead = g.0; sets = g.1 }
