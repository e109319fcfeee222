pub mod Loops
pub mod Concatenations
