-- words that begin with a letter or an underscore
pub mod Letters
-- the closing quote of a string
pub mod Strings
-- places after the bytes of a text
pub mod Places
-- cutting a text from left to right
pub mod Cuts
-- each piece that is a token is UTF-8
pub mod Written
-- no piece could go on
pub mod Longest
-- the parts are the whole text
pub mod Whole
