-- membership in lists, by recursion
pub mod Members
-- lists of matches one after another are what the meaning's sequence is
pub mod Sequences
-- whether a valuation meets a filter is what the test says
pub mod Meets
-- the matches of a formula are exactly its valuations
pub mod Exact
-- the numbers below a bound that pass a test, and lists of numbers that rise
pub mod Places
-- streams with the same events and the same positions give a formula the same valuations
pub mod Agreement
-- the positions that are listed are those of the substream
pub mod Keys
-- whether an interval is in the window is what the test says
pub mod Windows
-- the marks that are computed are those of the valuation, and whether they are contiguous is what the test says
pub mod Marking
-- the answers that are computed are exactly those of the query, each once
pub mod Answering
