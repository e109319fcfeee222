pub mod Pieces
pub mod Kept
pub mod Directories
