-- The lines of the answers so far are taken, no write has failed, and what was given and what is still to be given are all that is wanted.
use Rattle.std.proofs.Common.{◌≡◌, ◌+◌, ◌≤◌, List, ◌++◌, length, flat_map}
use Rattle.cel_terms.specs.Answers.{Answer}
use Rattle.cer_outside.specs.Bytes.{TookAll}
use Rattle.query_engine.specs.Engine.{Fits}
use Rattle.answer_text.specs.Output.{line}
use Rattle.answer_blocks.specs.RowSteps.{delays}
use Rattle.answer_blocks.specs.Wanted.{to_give}
use Rattle.answer_blocks.proofs.walk.write_answers.Given as goal

abbrev pub invariant-loop-start : goal.invariant-loop-start
invariant-loop-start g l = record {
  fits : Fits l.engine l.pulling.cursor;
  counted : g.K.Sink.faults l.out ≡ g.K.Sink.faults l.fn.out;
  given : (answers : List Answer)
      × (to_give l.engine l.fn.pulling.left l.fn.pulling.cursor ≡ answers ++ to_give l.engine l.pulling.left l.pulling.cursor)
      × TookAll (g.K.Sink.taken l.fn.out) (g.K.Sink.taken l.out) (flat_map (line l.query l.end) answers);
  delayed : l.steps + delays (to_give l.engine l.pulling.left l.pulling.cursor) ≤ l.fn.steps + delays (to_give l.engine l.fn.pulling.left l.fn.pulling.cursor);
}

abbrev pub decreases-loop-start : goal.decreases-loop-start
decreases-loop-start g l = length (to_give l.engine l.pulling.left l.pulling.cursor)
