pub mod Expressing
pub mod Good
pub mod Levels
pub mod Loops
pub mod Shrinking
