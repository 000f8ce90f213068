pub mod AnswerLaws
pub mod RowLaws
pub mod QueryWords
pub mod After
