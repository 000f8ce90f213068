use Rattle.event_run.proofs.Listed.{ArePassed}
use Rattle.event_run.proofs.clocks.first_fall.Given as goal

-- the queries so far are passed over
abbrev pub invariant-loop-k : goal.invariant-loop-k
invariant-loop-k l = ArePassed l.schema l.queries l.events l.event l.k
