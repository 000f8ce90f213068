-- The reader is open until the run stops, and each event takes room.
use Rattle.std.proofs.Common.{◌≡◌, ◌+◌, ◌^◌, ◌<◌, false}
use Rattle.query_engine.specs.Engine.{count_of}
use Rattle.engine_tests.proofs.tests.runs.take_all.Given as goal

abbrev pub invariant-loop-row : goal.invariant-loop-row
invariant-loop-row g l = (l.lines.closed ≡ false) × (count_of l.engine + l.lines.room < 2 ^ 64)

abbrev pub decreases-loop-row : goal.decreases-loop-row
decreases-loop-row g l = l.lines.room
