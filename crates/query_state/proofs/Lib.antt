mod Cuts
mod Cases
-- the clocks of what a query reads; for callers too
pub mod Clocks
mod Discovered
mod Giving
mod AtFirst
mod Lacking
mod Marked
mod Prepare
mod Worked
mod Dormant
mod Compacting
-- for callers too
pub mod Fresh
-- events that are no-ops for a query state
mod AfterNoOps
mod OwnKey
-- a key's event that is a no-op for its lists
mod NoOp
-- keys without lists are removed
mod Removed
-- what they leave is reached as before
mod KeptRoots
-- queries that share a clock
mod Sharing
-- queries that name the same streams or attributes
mod SameNames
