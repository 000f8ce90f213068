-- In reading order.
-- what is kept of lines, one after another
mod KeptLines
-- what is saved is read again
mod ReadAgain
-- what a history leaves, for the events that come after it
mod Resuming
-- along the events of a run no clock falls
mod Level
-- a run over two files, and one that goes on from what was saved of the first
mod TwoRuns
-- a stream of a history, and that the events after one stop in one way
mod OneStream
-- how a run ends that finds no history
mod HistoryEnds
-- what the answers over a source after a history are of the files
mod AfterHistory
-- the steps, and the engine that is left
mod ThreeFiles
-- what is said of the end of a run that goes on follows from them; for `core_top`
pub mod Lawful
