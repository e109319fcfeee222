pub mod Builds
pub mod Indexes
pub mod Limits
pub mod Nears
pub mod Removals
pub mod Splits
