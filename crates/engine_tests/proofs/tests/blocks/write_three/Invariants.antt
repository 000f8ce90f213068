-- As many events were taken as rounds were made.
use Rattle.std.proofs.Common.{◌≡◌}
use Rattle.query_engine.specs.Engine.{count_of}
use Rattle.engine_tests.proofs.tests.blocks.write_three.Given as goal

abbrev pub invariant-loop-k : goal.invariant-loop-k
invariant-loop-k g l = count_of l.engine ≡ l._k
