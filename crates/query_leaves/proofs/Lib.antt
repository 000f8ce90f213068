-- which names a list has
pub mod Naming
-- what changes make of an occurrence
pub mod Changes
-- the tree of a draft, by the lists in it
pub mod Drafted
-- changes that stand above a tree
pub mod Above
-- changes that are passed over by their keys
pub mod Keyed
-- an occurrence with a name of its own that nothing above it reads
pub mod Apart
-- the tree of a shape, by the lists in it
pub mod Shaped
-- how the leaves of a chain and of a choice are numbered
pub mod Numbered
-- what the expansion of a formula computes
pub mod Expanded
-- the first place at which a test passes
pub mod FirstPlace
-- lists whose elements are related one by one
pub mod Pairs
-- what the test of a predicate says
pub mod Tested
-- which events a leaf reads
pub mod EventsRead
-- no literal of a checked query's leaves has too many decimal places
pub mod Places
-- how many leaves a formula has
pub mod Counts
-- that the leaves of a checked query are lawful
pub mod Lawfulness
