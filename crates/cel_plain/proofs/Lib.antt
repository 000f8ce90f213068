-- what holds of each predicate in a list
pub mod Predicates
-- whether a list has a name, and what holds of each filter in a list
pub mod Naming
-- what a formula computes of the formulas in it, as lists
pub mod Rows
