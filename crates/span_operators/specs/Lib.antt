pub mod Kinds
pub mod Steps
pub mod Functions
pub mod Operators
