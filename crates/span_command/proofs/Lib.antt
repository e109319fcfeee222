pub mod Next
pub mod Ranges
pub mod Spaces
pub mod Steps
pub mod Refusing
pub mod Numerals
