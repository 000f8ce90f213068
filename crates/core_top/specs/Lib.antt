pub mod Jobs
pub mod StepCounts
pub mod LeftEngine
pub mod Faults
pub mod Calls
