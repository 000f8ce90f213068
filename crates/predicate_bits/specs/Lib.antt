pub mod Checks
pub mod Groups
pub mod Ranges
pub mod Spans
