-- An event was taken for no more lines than were played.
use Rattle.std.proofs.Common.{◌+◌, ◌≤◌}
use Rattle.query_engine.specs.Engine.{count_of}
use Rattle.engine_tests.proofs.tests.sessions.play_again.Given as goal

abbrev pub invariant-loop-k : goal.invariant-loop-k
invariant-loop-k g l = count_of l.session.engine ≤ count_of l.fn.session.engine + l._k
