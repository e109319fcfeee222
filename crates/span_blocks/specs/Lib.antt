pub mod Onward
pub mod Sources
pub mod Aggregating
pub mod Outputs
pub mod Blocks
