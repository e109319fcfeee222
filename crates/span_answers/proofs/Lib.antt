pub mod Begun
pub mod Shards
pub mod Written
