pub mod Rows
pub mod Groups
pub mod Sorting
pub mod Meaning
pub mod Layers
