pub mod Meaning
pub mod Entries
pub mod Longest
pub mod Steps
pub mod WholeKeys
