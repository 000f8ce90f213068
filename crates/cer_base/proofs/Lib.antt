-- the trees of a store, as it grows and is cut
pub mod Trees
-- what a walk down the trees of a store meets
pub mod Walks
-- lists without repeats
pub mod Repeats
-- sets as the bits of words
pub mod WordBits
-- reading digits one after the other
pub mod DigitLemmas
