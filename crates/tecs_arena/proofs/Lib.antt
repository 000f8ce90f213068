-- what the walks of the unsafe functions share
pub mod Memory
-- a `&` to the places is made where one to an item is
pub mod Sharing
-- where a place stands in the row of all places, as chunks are written and made
pub mod Chunks
-- the nodes of an arena are what its first places hold
pub mod Filled
-- which parts of a block may go to another thread
pub mod Crossing
