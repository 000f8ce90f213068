use Rattle.std.proofs.Common.{◌≡◌, ◌≤◌, length}
use Rattle.query_engine.specs.Falls.{last_of, last_clock}
use Rattle.event_run.proofs.clocks.last_clock.Given as goal

-- no event from here on is read
abbrev pub invariant-loop-behind : goal.invariant-loop-behind
invariant-loop-behind l = record {
  within : l.behind ≤ length l.events;
  unread : last_clock l.schema l.query l.events ≡ last_of l.schema l.query l.events l.behind;
}

abbrev pub decreases-loop-behind : goal.decreases-loop-behind
decreases-loop-behind l = l.behind
