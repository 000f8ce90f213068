pub mod Letters
pub mod Numerals
pub mod Fronts
pub mod Tokens
pub mod Whole
