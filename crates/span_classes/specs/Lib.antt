pub mod Classes
pub mod Merging
pub mod Ranges
