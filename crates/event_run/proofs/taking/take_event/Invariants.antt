use Rattle.std.proofs.Common.{◌≡◌, ◌+◌, ◌^◌, ◌<◌, ◌≤◌, ℕ, List, false}
use Rattle.stream_schema.specs.declared.Event.{Event}
use Rattle.query_engine.specs.Engine.{StandsFor, count_of, SameQueries}
use Rattle.event_run.specs.Taking.{HasTakenAfter}
use Rattle.event_run.proofs.taking.take_event.Given as goal

-- lines without an event were passed over
abbrev pub invariant-loop-fault : goal.invariant-loop-fault
invariant-loop-fault g l = record {
  open_is : l.lines.closed ≡ false;
  counted : count_of l.engine + l.lines.room < 2 ^ 64;
  same : SameQueries l.fn.engine l.engine;
  kept : l.engine ≡ l.fn.engine;
  budget : l.lines.budget ≡ l.fn.lines.budget;
  room : l.lines.room ≤ l.fn.lines.room;
  faults : g.Q.Source.faults l.source ≡ g.Q.Source.faults l.fn.source;
  steps : l.steps ≡ l.fn.steps;
  stands : (events : List Event) → StandsFor l.fn.engine events → StandsFor l.engine events;
  taken : (before events : List Event) → StandsFor l.fn.engine events → (bytes : List ℕ)
      → HasTakenAfter before l.fn.engine.schema l.fn.engine.queries l.fn.lines bytes (g.Q.Source.left l.fn.source) events
      → HasTakenAfter before l.fn.engine.schema l.fn.engine.queries l.lines bytes (g.Q.Source.left l.source) events;
}

abbrev pub decreases-loop-fault : goal.decreases-loop-fault
decreases-loop-fault g l = l.lines.room
