-- streams that agree at the positions of an interval
pub mod Agreeing
-- answers at the same events
pub mod EarlierAnswers
-- blocks and outputs where more events come
pub mod Growth
-- one output at most
pub mod Unique
-- what the words of a formula tell
pub mod WordsMean
-- queries that read and mean alike
pub mod Alike
-- queries of the same words
pub mod SameWords
-- queries with the same trees
pub mod SameTrees
-- what a line tells
pub mod LineText
-- the output as the lines of rows
pub mod RowsWritten
-- the output's rows where more events come; for callers
pub mod RowsGrow
-- what is written behind other events; for callers
pub mod After
