pub mod Falling
pub mod Querying
