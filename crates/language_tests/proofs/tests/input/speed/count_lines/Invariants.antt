-- The reader is not closed, and each line takes room.
use Rattle.std.proofs.Common.{◌≡◌, false}
use Rattle.language_tests.proofs.tests.input.speed.count_lines.Given as goal

abbrev pub invariant-loop-lines : goal.invariant-loop-lines
invariant-loop-lines g l = l.lines.closed ≡ false

abbrev pub decreases-loop-lines : goal.decreases-loop-lines
decreases-loop-lines g l = l.lines.room
