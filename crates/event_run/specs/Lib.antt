pub mod Runs
pub mod RunLaws
pub mod Taking
pub mod Wanting
pub mod Listing
