pub mod Firsts
pub mod Matching
pub mod Writing
