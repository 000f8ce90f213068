-- lists of numbers that rise or fall, and what is left of them
pub mod Lists
-- whether a query reads an event, computed
pub mod Reading
-- clocks and windows
pub mod Windows
-- the open matches of a key that accept and are recent are the answers at the key's last event, each once
pub mod Link
-- what is seen of a key's events as one event more comes
pub mod Growing
-- a cursor on the entries of accepting states' lists gives the answers
pub mod Roots
-- what is kept of one query as events come, and what a cursor that is opened on it gives
pub mod QueryStates
-- what stands for a key still does in more nodes and with more states
pub mod Grown
-- events of a key that its lists have let pass
pub mod Passing
-- events that begin nothing where no match is open
pub mod Nothing
-- a query state stands for the events with one more, where it advances
pub mod QueryStateSteps
-- a query state stands for events that are not brought to it
pub mod Dormancy
-- the kept states are different ones, and runs lead to each
pub mod FoundStates
-- whether an event has a key, and whether a key is kept
pub mod KeyCases
-- keys without lists may be removed
pub mod Giving
-- one key after the other is removed
pub mod GivingOne
