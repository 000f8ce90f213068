-- the number that digits write
pub mod Digits
-- the parts of a decimal number and the number that they spell
pub mod Decimals
-- the fields of a line with no quote byte are the parts between its commas
pub mod Cuts
-- what tests on the bytes of a line say of each byte
pub mod LineBytes
-- texts and tests on them
pub mod Texts
mod LineRows
-- how the lines of a file are read on
pub mod LineWalks
-- what a reader has given, from answer to answer
pub mod GivenLines
-- the parts of a window's buffer
pub mod LineBufferParts
-- bytes that are marked by the bits of a number
pub mod LineMarks
-- what each answer of a reader says, where the source tells its bytes
pub mod NextLines
-- an event that is read is of its schema
pub mod OfSchema
-- the whole numbers that a line read in one pass spells
pub mod CommonNumbers
-- the fields of a line that is read in one pass
pub mod CommonFields
-- the fields of a line that may have quotes are those that a walk over its bytes gives
pub mod QuotedCells
-- the field at the beginning of a text that may have quotes
pub mod QuotedParts
-- the same, put together run by run
pub mod QuotedRuns
-- the values of the fields of a line that may have quotes
pub mod QuotedFields
-- how many fields a line has, and why it gives no event
pub mod RefusedLines
-- a text cut at its first blank; for callers
pub mod FirstBlank
