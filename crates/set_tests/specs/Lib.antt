pub mod Ledgers
pub mod Parts
pub mod Ready
pub mod Rows
