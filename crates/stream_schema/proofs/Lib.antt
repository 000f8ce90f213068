-- names in an index
pub mod Indexed
-- names that stand once in a list
pub mod Distinct
-- the types of a stream are those at its name's place
pub mod StreamPlaces
-- what follows from what each schema keeps
pub mod WellDeclared
-- decimal numbers compared by value
pub mod Numbers
-- the walk over the names of a stream's types
pub mod Walks
-- the table of an attribute's places, for callers of the crate too
pub mod AttributePlaces
