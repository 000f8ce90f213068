pub mod Held
pub mod Notes
pub mod Calls
pub mod HeldCalls
