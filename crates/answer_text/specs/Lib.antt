pub mod Output
pub mod OutputRows
pub mod Texts
pub mod Explanations
pub mod AnswerSpans
