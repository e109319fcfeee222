pub mod Queries
pub mod Understands
pub mod Faults
