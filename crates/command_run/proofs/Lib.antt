-- what holds of a run as a task; for `core_top`
pub mod Lawful
