use Rattle.stream_answers.proofs.Putting.{walk_put, kept_put}
use Rattle.stream_answers.proofs.Totals.{kept_rows, walk_rows}
use Rattle.stream_answers.proofs.output.Output.put.Goals as goal

pub returns-in-Err-clause-passed : goal.returns-in-Err-clause-passed
returns-in-Err-clause-passed g c = λ events stands.
    kept_put _ _ events _ c.self.inside.order c.self.inside.buffer.items _ _ _ c.self.view_is c.in-Err.ensures.kept

pub returns-in-Walk-clause-passed : goal.returns-in-Walk-clause-passed
returns-in-Walk-clause-passed g c = λ events stands.
    walk_put _ _ events _ c.self.inside.order c.self.inside.buffer.items _ _ _ c.write_blocks.result c.self.view_is c.in-Walk.is c.self.invariant (c.write_blocks.ensures.took events stands)

pub returns-in-Err-clause-rows : goal.returns-in-Err-clause-rows
returns-in-Err-clause-rows g c =
    kept_rows _ c.self.inside.order c.self.inside.buffer.items _ _ _ _ _ c.self.view_is c.in-Err.ensures.kept c.in-Sorted.is c.in-Err.ensures.rows

pub returns-in-Walk-clause-rows : goal.returns-in-Walk-clause-rows
returns-in-Walk-clause-rows g c =
    walk_rows _ c.self.inside.order c.self.inside.buffer.items _ _ _ _ _ c.write_blocks.result c.self.view_is c.in-Walk.is c.self.invariant c.write_blocks.ensures.rows
