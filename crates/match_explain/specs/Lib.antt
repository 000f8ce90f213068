pub mod Explains
pub mod Searching
pub mod LeafNames
pub mod Bindings
pub mod Spans
