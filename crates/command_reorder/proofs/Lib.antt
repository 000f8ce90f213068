-- In reading order.
-- what lines feed, from line to line
mod FedLines
-- which events queries take of a list
mod Takings
-- what one step of gated events comes to
mod Gating
-- a file has one late run, also of queries that say the same; for callers
pub mod ForCallers
-- where some type lacks the clock
mod Unfit
-- what holds of it as a task; for `core_top`
pub mod Lawful
