pub mod Answering
pub mod Holding
pub mod Services
pub mod ManyLines
pub mod Compacting
pub mod HeldCalls
pub mod Serving
pub mod HoldingLaws
