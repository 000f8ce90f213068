pub mod Sorting
pub mod Releasing
pub mod AttributeClock
pub mod Gates
pub mod Holding
pub mod ReleaseLaws
