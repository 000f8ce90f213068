-- In reading order; those that commands and `core_top` cite are public.
-- what is read of a file
mod WholeFiles
-- the query text that was read
mod Texts
-- what is told of a file that was opened
pub mod Told
-- what a checkpoint tells is one thing
pub mod SameCheckpoint
-- what holds of each task, and what follows for all
pub mod Lawful
-- how each exit of a command meets what is said of its end
pub mod Ends
-- the steps of a command
pub mod StepClauses
-- how what ran over a source ended, and the cause
pub mod Sources
-- what holds of a command that writes the answers over events
pub mod Answering
-- how a command ends that writes a text once all events are read
pub mod TextEnds
