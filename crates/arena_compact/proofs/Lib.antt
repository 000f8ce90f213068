-- what a pruned tree has of the whole one
pub mod Pruned
-- one node is moved
pub mod Moving
-- a node of each kind is moved
pub mod Steps
-- what is left after all nodes are moved
pub mod Reached
-- nodes are marked
pub mod Keeping
-- the loop that moves the nodes
pub mod Loop
-- what a union list is after its nodes are pruned and its older entries are gone
pub mod Headed
-- what a cursor has left after the nodes of its stack are moved
pub mod Rests
-- the entries of a list are kept, and moved, one after the other
pub mod Listed
-- rows, keys and cursors, read one after the other
pub mod Readings
-- the rows that stay come first, in their order
pub mod Kept
-- a cursor needs no more nodes than before
pub mod Held
-- from the moved entries and stacks to the lists and cursors that a compaction leaves
pub mod Ends
-- the roots before and after, and what each node is left for
pub mod Left
-- lists that stand for some events stand for them after a compaction too
pub mod Standing
