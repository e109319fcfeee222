pub mod Counts
pub mod Planned
pub mod Targets
