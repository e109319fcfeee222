pub mod Judged
pub mod Scans
