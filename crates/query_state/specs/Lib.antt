pub mod KeyPlaces
pub mod Compacting
pub mod Matches
pub mod QueryStates
pub mod Own
pub mod Dropping
