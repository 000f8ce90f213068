-- In reading order.
-- whether a clock falls depends on what queries say; for callers
pub mod Alike
-- the first clock to fall is one, and computed; for callers
pub mod FirstFalls
-- a run is one, every file has one, and what was taken is where it begins; for callers
pub mod ForCallers
-- what a reader of lines has given, and the run; for callers
pub mod Given
-- one turn of reading
mod LineTaken
-- steps where memory ran out
mod RanOut
-- the events of a file as a list
mod Listed
-- the events of two files, one after the other
pub mod TwoFiles
