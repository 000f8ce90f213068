-- rows that are put in, and looked at
mod Listed
-- rows that are put into buckets, and looked at by them
mod Indexed
-- what an event marks by the indexes of its type
mod Found
-- what tests that ask for a text ask to open with
mod Opened
-- rows that are looked at, of those that wait
mod Awake
-- runs of numbers, and pieces of rows
mod Covered
-- tests that rows have in common, and the words that tell of them
mod TestWords
-- what the rows of a run mark
mod SharedRows
