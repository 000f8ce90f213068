use Rattle.std.proofs.Common.{◌≡◌, ℕ, ◌+◌, ◌-◌, ◌≤◌, List, map, take, length}
use Rattle.std.specs.Prelude.{sum_by}
use Rattle.stream_schema.specs.declared.Event.{Event}
use Rattle.query_standing.specs.Bounds.{update_bound}
use Rattle.all_or_none.specs.Phases.{ready_bound, AreBounded, AreUnchanged}
use Rattle.all_or_none.proofs.Marked.{HaveGone}
use Rattle.all_or_none.proofs.prepare_all.Given as goal

abbrev pub invariant-loop-k : goal.invariant-loop-k
invariant-loop-k g l = record {
  low : l.from ≤ length l.fn.query_states;
  gone : HaveGone g.P.Participant.phase l.event l.position l.marked l.from l.touched.items l.fn.query_states l.query_states;
  unchanged : AreUnchanged g.P.Participant.phase l.touched.items l.fn.query_states l.query_states;
  steps : l.steps ≤ l.fn.steps + sum_by (λ p. ready_bound (g.P.Participant.phase l.position p)) (take l.from l.query_states);
  within : (events : List Event) (most : List ℕ) → length events ≡ l.position → AreBounded events l.event (map (g.P.Participant.phase l.position) l.fn.query_states) most → l.steps ≤ l.fn.steps + sum_by update_bound (take l.from most);
}

abbrev pub decreases-loop-k : goal.decreases-loop-k
decreases-loop-k g l = length l.query_states - l.from
