-- answers put into order, as lists
pub mod Sorting
-- for callers of the crate too
pub mod Blocks
-- lines that were put after a text
mod Put
-- blocks one after another
pub mod Joined
-- what a sink has taken
pub mod Writing
-- what a text starts with
pub mod Texts
-- rows one after another, and what they cost; for callers
pub mod Counting
-- queries that have no answer
mod Skipped
