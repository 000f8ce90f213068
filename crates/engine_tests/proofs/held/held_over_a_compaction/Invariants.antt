use Rattle.query_engine.specs.Engine.{Fits}
use Rattle.engine_tests.proofs.held.held_over_a_compaction.Given as goal

-- the cursor can be pulled further
abbrev pub invariant-loop : goal.invariant-loop
invariant-loop g l = Fits l.engine l.cursor
