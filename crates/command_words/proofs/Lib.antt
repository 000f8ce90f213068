mod Building
mod Examples
-- what a caller may use
pub mod ForCallers
mod MatchesRead
-- two names that begin with no dash, and no option
pub mod NamesAlone
mod Refusals
mod Taken
