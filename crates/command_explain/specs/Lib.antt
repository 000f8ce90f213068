pub mod Explanations
pub mod ExplanationOutput
pub mod Explained
