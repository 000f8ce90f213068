use Rattle.std.proofs.Common.{length}
use Rattle.query_engine.specs.Engine.{Fits, rest}
use Rattle.engine_tests.proofs.rows.write_answers.Given as goal

-- the cursor can be pulled further
abbrev pub invariant-loop-start : goal.invariant-loop-start
invariant-loop-start g l = Fits l.engine l.cursor

abbrev pub decreases-loop-start : goal.decreases-loop-start
decreases-loop-start g l = length (rest l.engine l.cursor)
