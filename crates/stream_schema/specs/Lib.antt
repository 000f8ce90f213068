pub mod Types
pub mod Names
pub mod Declaring
pub mod Indexes
pub mod Events
pub mod Comparing
pub mod Equality
