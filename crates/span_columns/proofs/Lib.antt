pub mod Layered
pub mod Kept
