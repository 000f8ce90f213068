-- In reading order.
-- the rows of queries one after another
mod Rows
-- what is left as queries are asked and answers are drawn
mod Left
-- the first of some rising numbers that is above another
mod Above
-- turns of lines and answers
mod Turns
-- a search for a line feed
mod Feeds
-- what became of a line
mod LinesFed
-- what is left over a compaction
mod Kept
-- lines that were taken together
mod Quiet
-- what the held cursor of a number has left
mod Among
-- held cursors as one comes, changes or goes
mod Changing
-- calls on held cursors
pub mod HeldServices
-- what a held cursor gives over many calls
mod HeldGiven
