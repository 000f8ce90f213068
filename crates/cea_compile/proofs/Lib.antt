-- a tree's paths are the walks of its position automaton
pub mod Glushkov
-- the subset construction keeps what single leaves can do
pub mod Subsets
-- a walk's steps, with the events that it passes over, are what a leaf can do over the substream's entries
pub mod Skips
-- a tree has a path with the marked positions exactly where the determinised run accepts
pub mod Runs
-- a formula means what its tree means
pub mod Expand
-- what a tree means is what the paths of its numbered tree bind
pub mod Leaves
-- a valuation with the marks, or a determinised run that accepts
pub mod Answers
-- the computed automaton is the tree's
pub mod Compiled
-- a run that watches the phase accepts where the plain run does and the marks are contiguous
pub mod Strict
-- a query's answers are what the determinised runs of its automaton accept
pub mod Queries
-- small runs, computed
pub mod Rows
-- the entries of the listed positions from a start to an end cover the substream there
pub mod Entries
-- a query's answers are the accepted determinised runs over its substream
pub mod Accepted
-- the leaves of a query tell its automaton and its entries
pub mod LeafAutomaton
-- rows of sets that are made, and united one by one
pub mod Sets
-- the sets of a tree hold no number that the tree does not have
pub mod Below
-- the automaton that is built is that of the leaves
pub mod Built
-- the ends of a chain and of a choice, part by part
pub mod Joined
-- the parts of a shape are lower than the shape
pub mod Lower
