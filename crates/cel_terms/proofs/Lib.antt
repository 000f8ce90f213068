-- what sequences, choices and repetitions keep
pub mod Operations
-- induction over formulas
pub mod Induction
-- where the intervals of a formula lie
pub mod Intervals
-- the marks of an answer
pub mod Marked
-- events whose type number is not declared
pub mod Undeclared
-- which types a query reads, and the value of an attribute
pub mod TypesAndValues
