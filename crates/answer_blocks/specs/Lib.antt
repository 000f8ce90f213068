pub mod BlockLaws
pub mod SinkBytes
pub mod Wanted
pub mod Blocks
pub mod RowSteps
