-- In reading order.
-- the digits of a number
mod Digits
-- what a line spells
mod Spelled
-- the session as it is seen
mod Seen
-- the answers that a pull gives
mod Pulled
-- what an event takes and puts by
mod Paid
-- each command as a step
mod Stepping
-- and what it costs
mod Costs
-- and as steps of the engine's model
mod EngineTalk
-- models that differ in the order of answers alone, after the same command
mod SameCursors
-- such models refuse a command alike
mod SameRefusals
-- a script stops in one way; for callers
pub mod StopsOnce
-- lines that are all good, and the script
mod GoodLines
-- how one line ends
mod LineEnds
-- the session after each line, and how the script ends
mod ScriptEnds
-- how turns and their cost go on from line to line
mod Turning
-- the steps of a script, as those of a task are counted
mod TurnsCounted
-- what the steps over a source are of the files
mod OverFiles
-- what is said of a session's end follows from them; for `core_top`
pub mod Lawful
