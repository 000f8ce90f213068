pub mod Predicate
pub mod Meaning
pub mod Answers
pub mod EventsRead
pub mod Checked
pub mod MeaningLaws
