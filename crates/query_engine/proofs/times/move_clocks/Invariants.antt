use Rattle.std.proofs.Common.{take}
use Rattle.query_engine.specs.Times.{AreMoved}
use Rattle.query_engine.proofs.times.move_clocks.Given as goal

abbrev pub invariant-loop-number : goal.invariant-loop-number
invariant-loop-number l = AreMoved l.event l.position (take l.number-index l.numbers) l.fn.groups l.groups
