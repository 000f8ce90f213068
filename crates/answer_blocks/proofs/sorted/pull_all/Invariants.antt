-- What was found so far and what is still to be given are all that is wanted.
use Rattle.std.proofs.Common.{◌≡◌, ◌+◌, ◌≤◌, ◌++◌, length}
use Rattle.query_engine.specs.Engine.{Fits}
use Rattle.answer_blocks.specs.RowSteps.{delays}
use Rattle.answer_blocks.specs.Wanted.{to_give}
use Rattle.answer_blocks.proofs.sorted.pull_all.Given as goal

abbrev pub invariant-loop-start : goal.invariant-loop-start
invariant-loop-start g l = record {
  fits : Fits l.engine l.pulling.cursor;
  given : l.fn.found ++ to_give l.engine l.fn.pulling.left l.fn.pulling.cursor ≡ l.found ++ to_give l.engine l.pulling.left l.pulling.cursor;
  counted : l.steps + delays (to_give l.engine l.pulling.left l.pulling.cursor) ≤ l.fn.steps + delays (to_give l.engine l.fn.pulling.left l.fn.pulling.cursor);
}

abbrev pub decreases-loop-start : goal.decreases-loop-start
decreases-loop-start g l = length (to_give l.engine l.pulling.left l.pulling.cursor)
