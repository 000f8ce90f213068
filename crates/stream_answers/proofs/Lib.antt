-- In reading order.
-- bytes that a sink took in turn; for callers
pub mod Portions
-- the blocks of one position, put after what is held
mod Putting
-- a part of the answers over a whole file; for callers
pub mod Wholes
-- a run from event to event; for callers
pub mod Running
-- queries that are compacted as they grow; for callers
pub mod Growing
-- the compaction after an event; for callers
pub mod Compacted
-- the nodes that follow the windows, from event to event; for callers
pub mod Windows
-- a step over the lines of a file; for callers
pub mod LineSteps
-- how a run ends; for callers
pub mod RunEnds
-- the steps, from event to event and at the end; for callers
pub mod Totals
