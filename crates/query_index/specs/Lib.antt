pub mod Index
pub mod TextPrefilters
pub mod Rows
pub mod Runs
pub mod SharedTests
