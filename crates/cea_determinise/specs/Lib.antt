pub mod Runs
pub mod Strict
pub mod Cea
pub mod LazyDfa
pub mod Keys
pub mod Places
pub mod Rows
pub mod LeafSets
