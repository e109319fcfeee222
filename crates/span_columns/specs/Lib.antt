pub mod Reads
pub mod Picks
pub mod Narrow
