-- what holds of each test in a list
pub mod Listed
-- how the leaves of a type are collected, and a set of those that can read an event
pub mod Collected
-- a set that is filled with the leaves of a group whose tests hold
pub mod Filled
mod Ranged
-- what is left to test of a leaf
mod Checked
-- what the range of a leaf settles
mod Settled
-- what comparisons may come to over a span of numbers
mod Spanned
