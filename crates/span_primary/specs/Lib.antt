pub mod Phrases
pub mod Expressions
pub mod Reading
pub mod Nests
