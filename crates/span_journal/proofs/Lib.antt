pub mod Preparing
pub mod Gaps
pub mod Stepping
pub mod Claimed
pub mod Committing
pub mod Opening
