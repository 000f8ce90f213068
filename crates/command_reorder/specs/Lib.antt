pub mod Late
pub mod LateOutput
pub mod LateSteps
pub mod Laws
pub mod Gated
pub mod Reordered
