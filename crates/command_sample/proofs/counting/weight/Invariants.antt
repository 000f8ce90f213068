-- The interval and the positions so far are added up.
use Rattle.std.proofs.Common.{◌≡◌, ◌+◌, ◌%◌, ◌^◌, take, sum}
use Rattle.command_sample.proofs.counting.weight.Given as goal

abbrev pub invariant-loop-position : goal.invariant-loop-position
invariant-loop-position l = l.total ≡ (l.start + l.end + sum (take l.position-index l.positions)) % 2 ^ 64
