use Rattle.query_engine.proofs.Counting.{found_are_met, first_meet_fewer, event_is_bounded}
use Rattle.query_engine.proofs.laws.steps_are_bounded.Goals as goal

pub returns-clause-found : goal.returns-clause-found
returns-clause-found c = found_are_met

pub returns-clause-fewer : goal.returns-clause-fewer
returns-clause-fewer c = first_meet_fewer

pub returns-clause-event : goal.returns-clause-event
returns-clause-event c = event_is_bounded
