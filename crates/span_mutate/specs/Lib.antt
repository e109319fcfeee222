pub mod Kinds
pub mod Batches
pub mod Rows
pub mod Database
pub mod Faults
pub mod Directories
pub mod Typed
pub mod Touched
