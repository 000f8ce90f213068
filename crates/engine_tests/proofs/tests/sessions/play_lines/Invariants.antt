-- An event was taken for no more lines than were played.
use Rattle.std.proofs.Common.{◌+◌, ◌≤◌}
use Rattle.query_engine.specs.Engine.{count_of}
use Rattle.engine_tests.proofs.tests.sessions.play_lines.Given as goal

abbrev pub invariant-loop-line : goal.invariant-loop-line
invariant-loop-line g l = count_of l.session.engine + l.left ≤ 1000
