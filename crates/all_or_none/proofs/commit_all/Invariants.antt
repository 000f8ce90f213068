use Rattle.std.proofs.Common.{◌+◌, take}
use Rattle.all_or_none.specs.Phases.{AreLooked}
use Rattle.all_or_none.proofs.Committed.{HasCommitted}
use Rattle.all_or_none.proofs.commit_all.Given as goal

abbrev pub invariant-loop-number : goal.invariant-loop-number
invariant-loop-number g l = record {
  committed : HasCommitted (g.P.Participant.phase l.position) (g.P.Participant.phase (l.position + 1)) l.event l.position (take l.number-index l.numbers) l.fn.query_states l.query_states;
  looked : AreLooked g.P.Participant.phase (take l.number-index l.numbers) l.fn.activity l.activity l.query_states;
}
