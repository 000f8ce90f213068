use Rattle.query_engine.proofs.SmallSizes.{compacted_are_small, event_keeps_small, tending_keeps_small}
use Rattle.query_engine.proofs.laws.sizes_follow_windows.Goals as goal

pub returns-clause-compacted : goal.returns-clause-compacted
returns-clause-compacted c engine bases events least stands nodes keys are = compacted_are_small engine bases events least nodes keys are

pub returns-clause-event : goal.returns-clause-event
returns-clause-event c old new bases events event least looked behind same added keys small = event_keeps_small old new bases events event least looked behind same added keys small

pub returns-clause-tended : goal.returns-clause-tended
returns-clause-tended c old new before after events least looked same found tended small = tending_keeps_small old new before after events least looked same found tended small
