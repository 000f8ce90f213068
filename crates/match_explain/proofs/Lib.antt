-- what some number below a bound passes
pub mod Following
-- where a query has an answer the search can begin
pub mod Beginning
-- the steps that finish a search are those of a walk through the automaton, with the marks of the turns
pub mod MarkedTurns
-- positions that ascend, and which they list
pub mod Ascending
-- a run explains the complex event, and where there is none the event is no answer
pub mod Explained
-- the names of all leaves, each once and in order
pub mod Names
-- what the steps of a run bind is the valuation of its path
pub mod Bound
-- the span of a complex event in its substream, and what of the event it decides
pub mod Spanned
-- a run through the leaves that SELECT leaves marks is one through the leaves of the formula
pub mod Unselected
-- the turns that are made of a query's leaves are those of its automaton
pub mod TurnsMade
-- the names of the leaves of a formula, by the lists in it, and that they are those of its tree
pub mod Copied
-- the sets of finishers and the steps of a run, turn by turn
pub mod Walked
