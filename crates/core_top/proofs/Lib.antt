-- In reading order.
-- what the words ask for is one thing
mod Words
-- what the end of a task says of each answer
mod Clauses
-- a note for which there was no memory
mod Noted
-- each clause of the top call
mod TopClauses
-- jobs over a host that never fails
mod SureRuns
