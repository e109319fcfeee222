pub mod Given
pub mod Scans
