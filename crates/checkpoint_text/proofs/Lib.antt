-- In reading order.
-- the numbers that digits write
mod Spelled
-- whether a clock falls, from the last clocks
mod Falling
-- what the windows need
mod Needs
-- decimals
mod Decimals
-- the lines that are no event's
mod WordLines
-- lines one after another
mod Lines
-- histories as they are read and as they are spelled
pub mod Histories
-- what a keeper has
mod Keepers
-- what is written is read
mod Written
-- what is kept is a stream, and read again
mod KeptStreams
-- the texts that are kept give the events
mod KeptTexts
-- events of the schema, of lines that spell a history; for callers
pub mod ParseState
-- the answers that follow need no more than the windows
mod Restarting
-- a run in two parts
pub mod GoingOn
-- a history as a stream, and the clocks along it
mod Replayed
-- the clocks along the events that came; for callers
pub mod CameClocks
-- along a stream no clock falls where none falls with each event; for callers
pub mod NeverFalling
-- a keeper with one line more; for callers
pub mod CameKeepers
