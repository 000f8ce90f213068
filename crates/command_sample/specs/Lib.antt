pub mod Generator
pub mod Queries
pub mod Tallies
pub mod Summary
pub mod Progress
pub mod Ending
