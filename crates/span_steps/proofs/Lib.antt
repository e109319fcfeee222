pub mod Commands
pub mod Loads
pub mod Scans
pub mod Taking
