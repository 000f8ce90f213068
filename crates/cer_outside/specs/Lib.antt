pub mod Causes
pub mod Content
pub mod Bytes
pub mod States
pub mod Files
pub mod Calls
