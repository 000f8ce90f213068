-- A round more.
use Rattle.std.proofs.Common.{arith}
use Rattle.command_sample.proofs.Rounds.{at_start, all_told}
use Rattle.command_sample.proofs.counting.rounds.Goals as goal

pub loop-i-init : goal.loop-i-init
loop-i-init g c = at_start c.args.seed c.args.engine.now c.nothing-first.result.answers c.nothing-first.result.total c.nothing-second.result.answers c.nothing-second.result.total
    c.requires.schema c.requires.queries c.requires.stands c.requires.fresh
    c.nothing-first.ensures.answers c.nothing-first.ensures.total c.nothing-second.ensures.answers c.nothing-second.ensures.total

pub loop-i-preserved : goal.loop-i-preserved
loop-i-preserved g c = c.in_ok-next.ensures c.args.seed c.loop-i.i c.loop-i.invariant

pub returns : goal.returns
returns g c = all_told c.args.seed c.loop-i.i c.args.count c.loop-i.engine c.loop-i.x _ _ _ _ (omega arith) c.loop-i.invariant
