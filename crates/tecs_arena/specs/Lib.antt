pub mod Chunks
pub mod Contents
pub mod Ownership
