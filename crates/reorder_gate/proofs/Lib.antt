mod Placing
mod OnlyOne
mod Fronts
mod Parts
mod Standing
mod Entries
mod Tables
mod Views
mod Fitting
-- what a gate's callers need of the lists that it holds
pub mod ForCallers
