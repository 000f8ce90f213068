-- the text of positions, position by position
pub mod PositionsText
-- a line that is made from its end to its front
mod ShortLines
-- the order of answers
pub mod Ordered
-- rows and their lines; for callers
pub mod RowLists
-- the positions of spans as more come
mod Spans
-- what a sort leaves is in order
mod SortedSpans
