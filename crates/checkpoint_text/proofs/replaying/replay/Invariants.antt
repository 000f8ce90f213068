use Rattle.query_engine.specs.Engine.{peak_of}
use Rattle.checkpoint_text.proofs.Replayed.{Reached, Measured}
use Rattle.checkpoint_text.proofs.replaying.replay.Given as goal

-- the events so far are taken
abbrev pub invariant-loop-k : goal.invariant-loop-k
invariant-loop-k g l = Reached l.fn.engine.schema l.fn.engine.queries l.history.events l.k l.engine
    × Measured l.fn.engine.schema l.fn.engine.queries l.history.events l.k l.engine (peak_of l.fn.engine) l.fn.steps l.steps
