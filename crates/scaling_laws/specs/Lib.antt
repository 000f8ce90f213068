pub mod Shards
pub mod Alone
